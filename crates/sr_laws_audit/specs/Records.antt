-- The captures of a network in which nothing is dropped, cut or sent astray, as lists of copies with a true numbering.
use Rattle.std.specs.Prelude.{◌≡◌, ℕ, ◌+◌, ◌-◌, ◌^◌, ◌<◌, ◌≤◌, Bool, true, false, List, [], ◌∷◌, Option, None, Some, ℤ, pos, ◌+ℤ◌, ◌≤ℤ◌}
use Rattle.sr_sequence.specs.Numbers.{wire}
use Rattle.sr_audit.specs.declared.arrival.Arrival.{Arrival}
use Rattle.sr_audit.specs.declared.side.Side.{Side}
use Rattle.sr_audit.specs.declared.span.Span.{Span}
use Rattle.sr_audit.specs.declared.span.Spans.{Spans}
use Rattle.sr_audit.specs.Edges.{is_beyond, edges_of}
use Rattle.sr_audit.specs.Extents.{neither_of, jumps_of, restarts_of}
use Rattle.sr_audit.specs.Lanes.{other_side}
use Rattle.sr_audit.specs.Limits.{kept_numbers, epoch_gap}
use Rattle.sr_audit.specs.Skewing.{skews_of, count_in}
use Rattle.sr_audit.specs.Stretches.{Placed, came, top_number, newest_time, stretches}
use Rattle.sr_audit.specs.Tallies.{tally_of}
use Rattle.std.specs.Prelude.{sum_by}

-- the frames of a source by their whole numbers: which go past the recorder of a side, when each was sent, and when it passes there
pub record Passage : Type 0 where
  pub goes : Side → ℤ → Bool
  pub sent : ℤ → ℕ
  pub passes : Side → ℤ → ℕ

-- frames are sent in the order of their numbers, and pass each recorder so many nanoseconds behind that at most, which are less than
-- 400 ms; fewer than 1024 numbers are in flight: one that lies 1023 further is sent when the frame has passed
pub record PassesInTime (apart : ℕ) (p : Passage) : Type 0 where
  pub in_turn : (m n : ℤ) → m ≤ℤ n → p.sent m ≤ p.sent n
  pub not_early : (side : Side) (n : ℤ) → p.goes side n ≡ true → p.sent n ≤ p.passes side n
  pub not_late : (side : Side) (n : ℤ) → p.goes side n ≡ true → p.passes side n ≤ p.sent n + apart
  pub soon : apart < epoch_gap
  pub few : (side other : Side) (m n : ℤ) → p.goes side m ≡ true → p.goes other n ≡ true → (m +ℤ pos (kept_numbers - 1)) ≤ℤ n →
      p.sent m + apart < p.sent n
  pub in_time : (side : Side) (n : ℤ) → p.goes side n ≡ true → p.passes side n < 2 ^ 64 - 1

-- a number lies less than 64513 ahead of the greatest one that came before, if one did: so many, and the window, have 16 bits of their own
abbrev pub IsNotFar : ℤ → List Placed → Type 0
IsNotFar n [] = Unit {0}
IsNotFar n (y ∷ before) = n ≤ℤ (top_number (y ∷ before) +ℤ pos (65536 - kept_numbers))

-- a copy is that of a frame that goes past the recorder of its side, came when it passes there, while that runs, and no copy of it came
-- there before
pub record IsRecorded (p : Passage) (recorded : Spans) (y : Placed) (before : List Placed) : Type 0 where
  pub goes : p.goes y.side y.number ≡ true
  pub time : y.time ≡ p.passes y.side y.number
  pub runs : is_beyond recorded y.side y.time ≡ false
  pub once : came y.side y.number before ≡ false
  pub later : newest_time before ≤ y.time
  pub not_far : IsNotFar y.number before

-- so is each, newest first
abbrev pub AreRecorded : Passage → Spans → List Placed → Type 0
AreRecorded p recorded [] = Unit {0}
AreRecorded p recorded (y ∷ before) = IsRecorded p recorded y before × AreRecorded p recorded before

-- a recorder has each frame that passes it while it runs
abbrev pub HasAll : Passage → Spans → List Placed → Type 0
HasAll p recorded copies = (side : Side) (n : ℤ) → p.goes side n ≡ true → is_beyond recorded side (p.passes side n) ≡ false →
    came side n copies ≡ true

-- what the audit takes of copies: of each number the 16 bits that the frame carries
abbrev pub arrivals_by : List Placed → List Arrival
arrivals_by [] = []
arrivals_by (y ∷ before) = record { side = y.side; seq = record { 0 = wire y.number }; time = y.time } ∷ arrivals_by before

-- each frame goes past both recorders
abbrev pub GoesPastBoth : Passage → Type 0
GoesPastBoth p = (side : Side) (n : ℤ) → p.goes side n ≡ true → p.goes (other_side side) n ≡ true

-- a capture is judged at no time that lies so near one at which its recorder does not run
abbrev pub LeavesOut : ℕ → Spans → Spans → Type 0
LeavesOut apart recorded judged = (side : Side) (t u : ℕ) → t < 2 ^ 64 - 1 → is_beyond recorded side u ≡ true → t ≤ u + apart →
    u ≤ t + apart → is_beyond judged side t ≡ true

-- the source numbers its frames one apart, and they pass a recorder in the order of their numbers
pub record IsSequential (p : Passage) : Type 0 where
  pub one_apart : (side : Side) (m k n : ℤ) → p.goes side m ≡ true → p.goes side n ≡ true → m ≤ℤ k → k ≤ℤ n → p.goes side k ≡ true
  pub in_order : (side : Side) (m n : ℤ) → p.goes side m ≡ true → p.goes side n ≡ true → m ≤ℤ n → p.passes side m ≤ p.passes side n

-- both recorders run together for so long
abbrev pub Overlap : ℕ → Option Span → Option Span → Type 0
Overlap apart (Some a) (Some b) = (a.first + apart ≤ b.last) × (b.first + apart ≤ a.last)
Overlap apart (Some a) None = ⊥
Overlap apart None b = ⊥

-- no copy is a repeat, and no pair came 400 ms apart
pub record TellsNoRepeat (xs : List Arrival) : Type 0 where
  pub repeats_a : (tally_of (stretches xs)).repeats.a ≡ 0
  pub repeats_b : (tally_of (stretches xs)).repeats.b ≡ 0
  pub late : count_in 6 (skews_of (stretches xs)) ≡ 0

abbrev pub RecordsHaveNoRepeat : Type 0
RecordsHaveNoRepeat = (apart : ℕ) (p : Passage) (recorded : Spans) (copies : List Placed) → PassesInTime apart p →
    AreRecorded p recorded copies → TellsNoRepeat (arrivals_by copies)

-- no frame came by one side alone where the capture of the other side is judged
pub record TellsNoLoss (judged : Spans) (xs : List Arrival) : Type 0 where
  pub only_a : (tally_of (stretches xs)).alone.a - (edges_of judged (stretches xs)).a ≡ 0
  pub only_b : (tally_of (stretches xs)).alone.b - (edges_of judged (stretches xs)).b ≡ 0

abbrev pub RecordsHaveNoLoss : Type 0
RecordsHaveNoLoss = (apart : ℕ) (p : Passage) (recorded judged : Spans) (copies : List Placed) → PassesInTime apart p →
    AreRecorded p recorded copies → HasAll p recorded copies → GoesPastBoth p → LeavesOut apart recorded judged →
    TellsNoLoss judged (arrivals_by copies)

-- each number from one that goes past a recorder to another goes past one
abbrev pub GoesPastOne : Passage → Type 0
GoesPastOne p = (side other : Side) (m k n : ℤ) → p.goes side m ≡ true → p.goes other n ≡ true → m ≤ℤ k → k ≤ℤ n →
    (c : Side) × (p.goes c k ≡ true)

-- both recorders run from one time to another, and no frame passes them so near these
pub record IsFarFromEnds (apart : ℕ) (p : Passage) (span : Span) (side : Side) (n : ℤ) : Type 0 where
  pub begins : span.first + apart ≤ p.passes side n
  pub ends : p.passes side n + apart ≤ span.last

abbrev pub AreQuietEdges : ℕ → Passage → Spans → Span → Type 0
AreQuietEdges apart p recorded span = (recorded ≡ record { a = Some span; b = Some span })
    × ((side : Side) (n : ℤ) → p.goes side n ≡ true → is_beyond recorded side (p.passes side n) ≡ false → IsFarFromEnds apart p span side n)

-- no number was of no frame, and all copies are of one stretch
pub record LacksNoNumber (xs : List Arrival) : Type 0 where
  pub neither : sum_by neither_of (stretches xs) ≡ 0
  pub jumps : jumps_of xs ≡ 0
  pub restarts : restarts_of xs ≡ 0

abbrev pub RecordsLackNoNumber : Type 0
RecordsLackNoNumber = (apart : ℕ) (p : Passage) (recorded : Spans) (copies : List Placed) → PassesInTime apart p →
    AreRecorded p recorded copies → HasAll p recorded copies → GoesPastBoth p → IsSequential p → Overlap apart recorded.a recorded.b →
    LacksNoNumber (arrivals_by copies)

abbrev pub RingRecordsLackNoNumber : Type 0
RingRecordsLackNoNumber = (apart : ℕ) (p : Passage) (recorded : Spans) (span : Span) (copies : List Placed) → PassesInTime apart p →
    AreRecorded p recorded copies → HasAll p recorded copies → GoesPastOne p → AreQuietEdges apart p recorded span →
    LacksNoNumber (arrivals_by copies)
