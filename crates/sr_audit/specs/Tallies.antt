-- How many frames of the stretches came by both sides, by one alone, and more than once.
use Rattle.std.specs.Prelude.{ℕ, ◌+◌, Bool, not, ◌&&◌, ◌||◌, List, [], ◌∷◌, ℤ, sum_by, count_by, if◌then◌else◌}
use Rattle.sr_audit.specs.declared.side.Side.{Side}
use Rattle.sr_audit.specs.declared.side.Side.TheVariants.{A, B}
use Rattle.sr_audit.specs.declared.tally.Sides.{Sides}
use Rattle.sr_audit.specs.declared.tally.Tally.{Tally}
use Rattle.sr_audit.specs.Stretches.{Placed, same_side, came}

-- the frames of a stretch, each once
abbrev pub frames : List Placed → List ℤ
frames [] = []
frames (y ∷ before) = if came A y.number before || came B y.number before then frames before else y.number ∷ frames before

-- how many frames of a stretch pass a test of whether a copy came by A, and by B
abbrev pub frames_with : (Bool → Bool → Bool) → List Placed → ℕ
frames_with test s = count_by (λ n. test (came A n s) (came B n s)) (frames s)

-- a pair came by both, and the others by one alone
abbrev pub by_both : Bool → Bool → Bool
by_both a b = a && b

abbrev pub by_a_alone : Bool → Bool → Bool
by_a_alone a b = a && not b

abbrev pub by_b_alone : Bool → Bool → Bool
by_b_alone a b = b && not a

-- how many copies came in at a side
abbrev pub copies : Side → List Placed → ℕ
copies side s = count_by (λ y. same_side side y.side) s

-- how many of them came behind an earlier copy of their frame at that side
abbrev pub repeats : Side → List Placed → ℕ
repeats side [] = 0
repeats side (y ∷ before) = (if same_side side y.side && came side y.number before then 1 else 0) + repeats side before

abbrev pub at_sides : (Side → List Placed → ℕ) → List (List Placed) → Sides
at_sides count ss = record { a = sum_by (count A) ss; b = sum_by (count B) ss }

-- the figures of the stretches of a source
abbrev pub tally_of : List (List Placed) → Tally
tally_of ss = record {
  rx = at_sides copies ss;
  pairs = sum_by (frames_with by_both) ss;
  alone = record { a = sum_by (frames_with by_a_alone) ss; b = sum_by (frames_with by_b_alone) ss };
  repeats = at_sides repeats ss;
}
