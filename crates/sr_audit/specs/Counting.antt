-- Figures with one copy more.
use Rattle.std.specs.Prelude.{ℕ, ◌+◌, ◌-◌, ◌^◌, min, Bool, not, ◌&&◌, ◌||◌, if◌then◌else◌}
use Rattle.sr_audit.specs.declared.side.Side.{Side}
use Rattle.sr_audit.specs.declared.side.Side.TheVariants.{A, B}
use Rattle.sr_audit.specs.declared.tally.Came.{Came}
use Rattle.sr_audit.specs.declared.tally.Sides.{Sides}
use Rattle.sr_audit.specs.declared.tally.Tally.{Tally}
use Rattle.sr_audit.specs.Stretches.{same_side}

-- a count with one more, or one less, where a test holds
abbrev pub more_if : ℕ → Bool → ℕ
more_if count is_one = min (count + (if is_one then 1 else 0)) (2 ^ 64 - 1)

abbrev pub less_if : ℕ → Bool → ℕ
less_if count is_one = count - (if is_one then 1 else 0)

-- a copy is the first at its side of a frame that came by the other
abbrev pub joins : Bool → Bool → Bool → Bool
joins here came_here came_there = here && (came_there && not came_here)

-- figures with a copy more of a frame of which copies came before by some sides
abbrev pub tally_with : Tally → Side → Came → Tally
tally_with t side came = record {
  rx = record { a = more_if t.rx.a (same_side A side); b = more_if t.rx.b (same_side B side) };
  pairs = more_if t.pairs (joins (same_side B side) came.b came.a || joins (same_side A side) came.a came.b);
  alone = record {
    a = less_if (more_if t.alone.a (same_side A side && (not came.a && not came.b))) (joins (same_side B side) came.b came.a);
    b = less_if (more_if t.alone.b (same_side B side && (not came.a && not came.b))) (joins (same_side A side) came.a came.b);
  };
  repeats = record {
    a = more_if t.repeats.a (same_side A side && came.a);
    b = more_if t.repeats.b (same_side B side && came.b);
  };
}

-- counts of both sides with one more, or one less, at a side, where a test holds
abbrev pub more_at : Sides → Side → Bool → Sides
more_at s side is_one = record {
  a = more_if s.a (same_side A side && is_one);
  b = more_if s.b (same_side B side && is_one);
}

abbrev pub less_at : Sides → Side → Bool → Sides
less_at s side is_one = record {
  a = less_if s.a (same_side A side && is_one);
  b = less_if s.b (same_side B side && is_one);
}

-- copies came before by some side, or by this one
abbrev pub has_come : Came → Bool
has_come came = came.a || came.b

abbrev pub came_before_at : Came → Side → Bool
came_before_at came A = came.a
came_before_at came B = came.b
