-- What a node that hands all frames up makes of the arrivals that an audit counts.
use Rattle.std.specs.Prelude.{
  ◌≡◌,
  ℕ,
  ◌+◌,
  ◌-◌,
  ◌/◌,
  nat_lt,
  Bool,
  true,
  false,
  ◌&&◌,
  List,
  [],
  ◌∷◌,
  length,
  count_by,
  ℤ,
  pos,
  ◌-ℤ◌,
  if◌then◌else◌,
}
use Rattle.sr_frame.specs.declared.fields.Mac.{Mac}
use Rattle.sr_frame.specs.Addresses.{mac_eq}
use Rattle.sr_sequence.specs.Numbers.{wire}
use Rattle.sr_sequence.specs.Places.{number_at}
use Rattle.sr_dup_window.specs.declared.lane_sets.Lane.TheVariants.{H, GotA, GotB}
use Rattle.sr_dup_window.specs.LaneSets.{has}
use Rattle.sr_dup_table.specs.Limits.{forget_time}
use Rattle.sr_dup_table.specs.Sources.{Sources}
use Rattle.sr_laws_dup.specs.TableRuns.{Noting, was_noted, TableTurn, arrived, aged, notings_of, TableRun, IsSteadyRun}
use Rattle.sr_audit.specs.declared.arrival.Arrival.{Arrival}
use Rattle.sr_audit.specs.declared.side.Side.{Side}
use Rattle.sr_audit.specs.declared.side.Side.TheVariants.{A, B}
use Rattle.sr_audit.specs.declared.span.Spans.{Spans}
use Rattle.sr_audit.specs.Audits.{Sent, of}
use Rattle.sr_audit.specs.Edges.{edges_of}
use Rattle.sr_audit.specs.Extents.{jumps_of}
use Rattle.sr_audit.specs.Lanes.{side_lane}
use Rattle.sr_audit.specs.Limits.{kept_numbers, epoch_gap}
use Rattle.sr_audit.specs.Stretches.{Placed, same_side, came, top_number, newest_time, lies_from, goes_on, current, stretches}
use Rattle.sr_audit.specs.Tallies.{frames, by_both, by_a_alone, by_b_alone, tally_of}

-- the step of the clock of a node in nanoseconds: a millisecond
abbrev pub clock_step : ℕ
clock_step = 1000000

-- a node takes an arrival: the frame has the 16 bits of its whole number, the time is that of a clock of whole milliseconds, and the copy
-- is noted for the host and at its side alone
pub record IsNotedAs (c : Sent) (x : Noting) : Type 0 where
  pub src : x.arrival.src ≡ c.0
  pub number : wire x.arrival.number ≡ c.1.seq.0
  pub time : x.arrival.time ≡ c.1.time / clock_step
  pub host : has x.lanes H ≡ true
  pub got_a : has x.lanes GotA ≡ same_side A c.1.side
  pub got_b : has x.lanes GotB ≡ same_side B c.1.side

-- it takes these, one by one
abbrev pub AreNotedAs : List Sent → List Noting → Type 0
AreNotedAs [] [] = Unit {0}
AreNotedAs (c ∷ cs) (x ∷ xs) = IsNotedAs c x × AreNotedAs cs xs
AreNotedAs cs xs = ⊥

-- a source is silent for 400 ms by its arrivals' nanoseconds where it is by whole milliseconds
abbrev pub AreSilentAlike : List Arrival → Type 0
AreSilentAlike [] = Unit {0}
AreSilentAlike (x ∷ []) = Unit {0}
AreSilentAlike (x ∷ y ∷ before) =
    (nat_lt (x.time - y.time) epoch_gap ≡ nat_lt (x.time / clock_step - y.time / clock_step) forget_time) × AreSilentAlike (y ∷ before)

-- a copy under the whole number that the run gives its frame, and all copies of a source
abbrev pub run_copy : Sent → Noting → Placed
run_copy c x = record { side = c.1.side; number = x.arrival.number; time = c.1.time }

abbrev pub run_copies : Mac → List Sent → List Noting → List Placed
run_copies src [] xs = []
run_copies src (c ∷ cs) [] = []
run_copies src (c ∷ cs) (x ∷ xs) = if mac_eq src c.0 then run_copy c x ∷ run_copies src cs xs else run_copies src cs xs

-- the whole number of the newest of some copies
abbrev pub newest_number : List Placed → ℤ
newest_number [] = pos 0
newest_number (y ∷ before) = y.number

-- an arrival that goes on with a stretch behind a silence, with this whole number in the run, lies as far from the copy before it by the
-- run as it does in the stretch
abbrev pub GoesOnAlike : Arrival → ℤ → List Placed → List Placed → Type 0
GoesOnAlike x number copies s = nat_lt (x.time - newest_time s) epoch_gap ≡ false → goes_on s x ≡ true →
    number -ℤ newest_number copies ≡ number_at (top_number s) (lies_from s x.seq.0) -ℤ newest_number s

-- so does each of a source
abbrev pub AreGoneOnAlike : Mac → List Sent → List Noting → Type 0
AreGoneOnAlike src [] xs = Unit {0}
AreGoneOnAlike src (c ∷ cs) [] = Unit {0}
AreGoneOnAlike src (c ∷ cs) (x ∷ xs) = AreGoneOnAlike src cs xs
    × (mac_eq src c.0 ≡ true → GoesOnAlike c.1 x.arrival.number (run_copies src cs xs) (current (stretches (of src cs))))

-- the whole numbers of a source's frames that went up to the host
abbrev pub handed_up : Mac → List TableTurn → List ℤ
handed_up src [] = []
handed_up src (arrived x fresh ∷ before) =
    if mac_eq src x.arrival.src && has fresh H then x.arrival.number ∷ handed_up src before else handed_up src before
handed_up src (aged now ∷ before) = handed_up src before

-- how many of them pass a test of whether a copy was noted on GotA, and on GotB
abbrev pub up_with : (Bool → Bool → Bool) → Mac → List TableTurn → ℕ
up_with test src turns =
    count_by (λ n. test (was_noted src n GotA (notings_of [] turns)) (was_noted src n GotB (notings_of [] turns))) (handed_up src turns)

-- the frames of an audit are those that went up, and each came by a side where it was noted on the lane of that side
pub record CountsWhatGoesUp (spans : Spans) (sent : List Sent) (xs : List Arrival) (src : Mac) (turns : List TableTurn) : Type 0 where
  pub ups : handed_up src turns ≡ frames (run_copies src sent (notings_of [] turns))
  pub each : (side : Side) (n : ℤ) →
      came side n (run_copies src sent (notings_of [] turns)) ≡ was_noted src n (side_lane side) (notings_of [] turns)
  pub pairs : (tally_of (stretches xs)).pairs ≡ up_with by_both src turns
  pub alone_a : (tally_of (stretches xs)).alone.a ≡ up_with by_a_alone src turns
  pub alone_b : (tally_of (stretches xs)).alone.b ≡ up_with by_b_alone src turns
  pub frames : let t = tally_of (stretches xs) in let edges = edges_of spans (stretches xs) in
      t.pairs + (t.alone.a - edges.a) + (t.alone.b - edges.b) + edges.a + edges.b ≡ length (handed_up src turns)

-- in a steady run from the empty table, of a source that makes no jump
abbrev pub SteadyAuditsCountWhatGoesUp : Type 0
SteadyAuditsCountWhatGoesUp = (turns : List TableTurn) (t : Sources) (sent : List Sent) (spans : Spans) (src : Mac) →
    TableRun kept_numbers [] turns t → IsSteadyRun kept_numbers 0 [] turns → AreNotedAs sent (notings_of [] turns) →
    AreSilentAlike (of src sent) → AreGoneOnAlike src sent (notings_of [] turns) → jumps_of (of src sent) ≡ 0 →
    CountsWhatGoesUp spans sent (of src sent) src turns
