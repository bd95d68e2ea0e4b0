-- Which frames of a stretch are called lost, up to a mark.
use Rattle.std.specs.Prelude.{
  ◌≡◌,
  ℕ,
  zero,
  suc,
  ◌+◌,
  ◌-◌,
  ◌≤◌,
  nat_le,
  Bool,
  true,
  false,
  not,
  ◌&&◌,
  List,
  [],
  ◌∷◌,
  ℤ,
  pos,
  ◌+ℤ◌,
  if◌then◌else◌,
}
use Rattle.std.specs.Ordering.{int_eq}
use Rattle.sr_audit.specs.declared.side.Side.{Side}
use Rattle.sr_audit.specs.declared.side.Side.TheVariants.{A, B}
use Rattle.sr_audit.specs.declared.tally.Sides.{Sides}
use Rattle.sr_audit.specs.Edges.{first_time}
use Rattle.sr_audit.specs.Lanes.{other_side}
use Rattle.sr_audit.specs.Stretches.{Placed, same_side, came}
use Rattle.sr_audit.specs.Waiting.{copy_in_time, waits_on}

abbrev pub count_at : Side → Sides → ℕ
count_at A w = w.a
count_at B w = w.b

abbrev pub one_when : Bool → ℕ
one_when true = 1
one_when false = 0

-- the first copy of a frame by a side came 400 ms or more behind that by the other one
abbrev pub comes_late : Side → ℤ → List Placed → Bool
comes_late side n [] = false
comes_late side n (y ∷ before) =
    if (int_eq n y.number && same_side side y.side) && (came (other_side side) n before && not (came side n before))
    then nat_le copy_in_time (y.time - first_time n before) else comes_late side n before

-- a frame that came by one side or not, and by the other, is called lost by that other one: where no copy came in time
abbrev pub called_if : Bool → Bool → ℕ → ℕ → Bool → ℕ
called_if false there mark first late = 0
called_if true false mark first late = one_when (nat_le copy_in_time (mark - first))
called_if true true mark first late = one_when late

abbrev pub is_called : Side → ℕ → List Placed → ℤ → ℕ
is_called side mark s n =
    called_if (came side n s) (came (other_side side) n s) mark (first_time n s) (comes_late (other_side side) n s)

-- of so many numbers of a stretch, from one on: the frames of a side that the other one is called to have lost, those that came by the side
-- alone, and those whose copy by the other one was late
abbrev pub called_on : Side → ℕ → List Placed → ℤ → ℕ → ℕ
called_on side mark s n zero = 0
called_on side mark s n (suc k) = is_called side mark s (n +ℤ pos k) + called_on side mark s n k

abbrev pub alone_if : Bool → Bool → ℕ
alone_if here there = one_when (here && not there)

abbrev pub alone_on : Side → List Placed → ℤ → ℕ → ℕ
alone_on side s n zero = 0
alone_on side s n (suc k) = alone_if (came side (n +ℤ pos k) s) (came (other_side side) (n +ℤ pos k) s) + alone_on side s n k

abbrev pub late_if : Bool → Bool → Bool → ℕ
late_if here there late = one_when (here && (there && late))

abbrev pub late_on : Side → List Placed → ℤ → ℕ → ℕ
late_on side s n zero = 0
late_on side s n (suc k) =
    late_if (came side (n +ℤ pos k) s) (came (other_side side) (n +ℤ pos k) s) (comes_late (other_side side) (n +ℤ pos k) s)
    + late_on side s n k

-- those that came by the side alone, or late by the other one, are those that wait and those that are called lost, together
abbrev pub CallsAddUp : Type 0
CallsAddUp = (side : Side) (mark : ℕ) (s : List Placed) (n : ℤ) (k : ℕ) →
    alone_on side s n k + late_on side s n k ≡ count_at side (waits_on mark s n k) + called_on side mark s n k

-- no call is taken back while the mark goes on, nor by an arrival at the mark or behind it
abbrev pub NoCallIsTakenBack : Type 0
NoCallIsTakenBack = (side : Side) (mark later : ℕ) (y : Placed) (s : List Placed) (n : ℤ) (k : ℕ) → mark ≤ later → mark ≤ y.time →
    (called_on side mark s n k ≤ called_on side later s n k) × (called_on side mark s n k ≤ called_on side later (y ∷ s) n k)
