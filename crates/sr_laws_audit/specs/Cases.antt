-- Lists of copies worked out: the premises of the laws of records can be met, and what is lost or came twice is told.
use Rattle.std.specs.Prelude.{Bool, ◌≡◌, ℕ, ◌-◌, ◌||◌, List, [], ◌∷◌, Some, ℤ, pos, int_lt, sum_by, if◌then◌else◌}
use Rattle.std.specs.Ordering.{int_eq}
use Rattle.sr_audit.specs.declared.side.Side.{Side}
use Rattle.sr_audit.specs.declared.side.Side.TheVariants.{A, B}
use Rattle.sr_audit.specs.declared.span.Span.{Span}
use Rattle.sr_audit.specs.declared.span.Spans.{Spans}
use Rattle.sr_audit.specs.Edges.{edges_of}
use Rattle.sr_audit.specs.Extents.{neither_of}
use Rattle.sr_audit.specs.Stretches.{Placed, stretches}
use Rattle.sr_audit.specs.Tallies.{tally_of}
use Rattle.sr_laws_audit.specs.Records.{
  Passage,
  PassesInTime,
  AreRecorded,
  HasAll,
  arrivals_by,
  GoesPastBoth,
  LeavesOut,
  IsSequential,
  Overlap,
  GoesPastOne,
  AreQuietEdges,
}

-- a source sends the frames 7, 8 and 9, at 10, 20 and 30 ns; they pass A at once, and B 2 ns later
abbrev pub three_sent : ℤ → ℕ
three_sent n = if int_lt n (pos 8) then 10 else if int_lt n (pos 9) then 20 else 30

abbrev pub three_pass : Side → ℤ → ℕ
three_pass A n = if int_lt n (pos 8) then 10 else if int_lt n (pos 9) then 20 else 30
three_pass B n = if int_lt n (pos 8) then 12 else if int_lt n (pos 9) then 22 else 32

abbrev pub three_frames : Passage
three_frames = record {
  goes = λ side n. int_eq n (pos 7) || (int_eq n (pos 8) || int_eq n (pos 9));
  sent = three_sent;
  passes = three_pass;
}

-- the recorder of A runs from the first frame on, and that of B begins behind it; both end behind the last one
abbrev pub three_recorded : Spans
three_recorded = record { a = Some (record { first = 10; last = 36 }); b = Some (record { first = 16; last = 36 }) }

-- what is judged lies 2 ns from both ends
abbrev pub three_judged : Spans
three_judged = record { a = Some (record { first = 12; last = 34 }); b = Some (record { first = 18; last = 34 }) }

abbrev pub placed_at : Side → ℤ → ℕ → Placed
placed_at side n time = record { side = side; number = n; time = time }

-- what they have, newest first
abbrev pub three_copies : List Placed
three_copies =
    placed_at B (pos 9) 32 ∷ placed_at A (pos 9) 30 ∷ placed_at B (pos 8) 22 ∷ placed_at A (pos 8) 20 ∷ placed_at A (pos 7) 10 ∷ []

pub record MeetsThePremises (apart : ℕ) (p : Passage) (recorded judged : Spans) (copies : List Placed) : Type 0 where
  pub timely : PassesInTime apart p
  pub are_recorded : AreRecorded p recorded copies
  pub has_all : HasAll p recorded copies
  pub past_both : GoesPastBoth p
  pub in_order : IsSequential p
  pub overlap : Overlap apart recorded.a recorded.b
  pub leaves_out : LeavesOut apart recorded judged

abbrev pub ThreeFramesMeetThePremises : Type 0
ThreeFramesMeetThePremises = MeetsThePremises 2 three_frames three_recorded three_judged three_copies

-- in a ring, where 7 is sent to a single address on the way of A, 8 to one on the way of B, and 9 to a group
abbrev pub ring_goes : Side → ℤ → Bool
ring_goes A n = int_eq n (pos 7) || int_eq n (pos 9)
ring_goes B n = int_eq n (pos 8) || int_eq n (pos 9)

abbrev pub ring_frames : Passage
ring_frames = record { goes = ring_goes; sent = three_sent; passes = three_pass }

abbrev pub ring_span : Span
ring_span = record { first = 4; last = 40 }

abbrev pub ring_recorded : Spans
ring_recorded = record { a = Some ring_span; b = Some ring_span }

abbrev pub ring_copies : List Placed
ring_copies = placed_at B (pos 9) 32 ∷ placed_at A (pos 9) 30 ∷ placed_at B (pos 8) 22 ∷ placed_at A (pos 7) 10 ∷ []

pub record MeetsThePremisesInRing (apart : ℕ) (p : Passage) (recorded : Spans) (span : Span) (copies : List Placed) : Type 0 where
  pub timely : PassesInTime apart p
  pub are_recorded : AreRecorded p recorded copies
  pub has_all : HasAll p recorded copies
  pub past_one : GoesPastOne p
  pub quiet : AreQuietEdges apart p recorded span

abbrev pub RingFramesMeetThePremises : Type 0
RingFramesMeetThePremises = MeetsThePremisesInRing 2 ring_frames ring_recorded ring_span ring_copies

-- frames that a figure tells as lost by B, and numbers that no frame had
abbrev pub lost_by_b : List Placed → ℕ
lost_by_b copies =
    (tally_of (stretches (arrivals_by copies))).alone.a - (edges_of three_judged (stretches (arrivals_by copies))).a

abbrev pub of_no_frame : List Placed → ℕ
of_no_frame copies = sum_by neither_of (stretches (arrivals_by copies))

-- the same without the copy of 8 at B, without both copies of it, and with a copy of 8 twice
abbrev pub without_one : List Placed
without_one = placed_at B (pos 9) 32 ∷ placed_at A (pos 9) 30 ∷ placed_at A (pos 8) 20 ∷ placed_at A (pos 7) 10 ∷ []

abbrev pub without_both : List Placed
without_both = placed_at B (pos 9) 32 ∷ placed_at A (pos 9) 30 ∷ placed_at A (pos 7) 10 ∷ []

abbrev pub with_one_twice : List Placed
with_one_twice =
    placed_at B (pos 9) 32 ∷ placed_at A (pos 9) 30 ∷ placed_at B (pos 8) 22 ∷ placed_at A (pos 8) 21 ∷ placed_at A (pos 8) 20
    ∷ placed_at A (pos 7) 10 ∷ []

-- no such list has the figures of a network in which nothing is lost
pub record TellsWhatIsLost : Type 0 where
  pub all : lost_by_b three_copies ≡ 0
  pub all_numbers : of_no_frame three_copies ≡ 0
  pub one : lost_by_b without_one ≡ 1
  pub both : of_no_frame without_both ≡ 1
  pub twice : (tally_of (stretches (arrivals_by with_one_twice))).repeats.a ≡ 1
