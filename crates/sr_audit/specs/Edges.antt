-- When frames came, and which came by one side alone while the capture of the other side did not run.
use Rattle.std.specs.Prelude.{
  ◌≡◌,
  ℕ,
  nat_lt,
  Bool,
  true,
  not,
  ◌&&◌,
  ◌||◌,
  List,
  [],
  ◌∷◌,
  slice_set,
  slice_index_or,
  Option,
  None,
  Some,
  ℤ,
  pos,
  ◌-ℤ◌,
  ◌<ℤ◌,
  count_by,
  sum_by,
  if◌then◌else◌,
}
use Rattle.std.specs.Ordering.{int_eq}
use Rattle.sr_sequence.specs.Numbers.{wire}
use Rattle.sr_audit.specs.declared.arrival.Arrival.{Arrival}
use Rattle.sr_audit.specs.declared.side.Side.{Side}
use Rattle.sr_audit.specs.declared.side.Side.TheVariants.{A, B}
use Rattle.sr_audit.specs.declared.span.Span.{Span}
use Rattle.sr_audit.specs.declared.span.Spans.{Spans}
use Rattle.sr_audit.specs.declared.tally.Came.{Came}
use Rattle.sr_audit.specs.declared.tally.Sides.{Sides}
use Rattle.sr_audit.specs.Counting.{more_at, less_at, has_come, came_before_at}
use Rattle.sr_audit.specs.Lanes.{other_side}
use Rattle.sr_audit.specs.Limits.{kept_numbers, place_in}
use Rattle.sr_audit.specs.Stretches.{Placed, came, top_number, current}
use Rattle.sr_audit.specs.Tallies.{frames, by_a_alone, by_b_alone}

-- when the first copy of a frame of a stretch came
abbrev pub first_time : ℤ → List Placed → ℕ
first_time n [] = 0
first_time n (y ∷ before) =
    if int_eq n y.number && not (came A n before || came B n before) then y.time else first_time n before

-- a time is before the first packet of a capture, or behind its last one
abbrev pub is_outside : Option Span → ℕ → Bool
is_outside None time = true
is_outside (Some span) time = nat_lt time span.first || nat_lt span.last time

abbrev pub is_beyond : Spans → Side → ℕ → Bool
is_beyond spans A time = is_outside spans.a time
is_beyond spans B time = is_outside spans.b time

-- how many frames of a stretch pass a test of whether a copy came by A, and by B, and of when the first one came
abbrev pub frames_at : (Bool → Bool → ℕ → Bool) → List Placed → ℕ
frames_at test s = count_by (λ n. test (came A n s) (came B n s) (first_time n s)) (frames s)

-- a frame came by one side alone, while the capture of the other side did not run
abbrev pub at_edge_a : Spans → Bool → Bool → ℕ → Bool
at_edge_a spans a b time = by_a_alone a b && is_beyond spans B time

abbrev pub at_edge_b : Spans → Bool → Bool → ℕ → Bool
at_edge_b spans a b time = by_b_alone a b && is_beyond spans A time

abbrev pub edges_of : Spans → List (List Placed) → Sides
edges_of spans ss = record {
  a = sum_by (frames_at (at_edge_a spans)) ss;
  b = sum_by (frames_at (at_edge_b spans)) ss;
}

-- the counts with a copy more of a frame, at a side and a time, of which copies came before by some sides, the first of them then
abbrev pub edges_with : Spans → Side → ℕ → Came → ℕ → Sides → Sides
edges_with spans side time came first edges =
    if has_come came
    then (if came_before_at came side then edges else less_at edges (other_side side) (is_beyond spans side first))
    else more_at edges side (is_beyond spans (other_side side) time)

-- the times with a copy more
abbrev pub moments_with : Arrival → Came → List ℕ → List ℕ
moments_with x came moments = if has_come came then moments else slice_set moments (place_in x.seq.0) x.time

-- the times are those of the first copies of the last 1024 numbers of a stretch
abbrev pub KeepsTimes : List Placed → List ℕ → Type 0
KeepsTimes s moments = (n : ℤ) → (came A n s || came B n s) ≡ true → (top_number s -ℤ pos kept_numbers) <ℤ n →
    slice_index_or moments (place_in (wire n)) 0 ≡ first_time n s

pub record KeepsEdges (spans : Spans) (ss : List (List Placed)) (moments : List ℕ) (edges : Sides) : Type 0 where
  pub times : KeepsTimes (current ss) moments
  pub edges_are : edges ≡ edges_of spans ss
