-- Which frames came by a LAN so late that they were called lost there.
use Rattle.std.specs.Prelude.{ℕ, ◌+◌, nat_eq, Bool, ◌&&◌, List, [], ◌∷◌, ℤ, unsigned_abs, sum_by, if◌then◌else◌}
use Rattle.sr_audit.specs.declared.side.Side.{Side}
use Rattle.sr_audit.specs.declared.side.Side.TheVariants.{A, B}
use Rattle.sr_audit.specs.declared.tally.Sides.{Sides}
use Rattle.sr_audit.specs.Edges.{first_time}
use Rattle.sr_audit.specs.Skewing.{pairs_up, skew_by, class_of}
use Rattle.sr_audit.specs.Stretches.{Placed, same_side}

-- a skew of 400 ms or more: it is in the class without a bound
abbrev pub is_late_skew : ℤ → Bool
is_late_skew z = nat_eq (class_of (unsigned_abs z)) 6

-- a copy by a side makes a pair of its frame, 400 ms or more behind the first one
abbrev pub joins_late : Side → Placed → List Placed → Bool
joins_late side y before =
    pairs_up y before && (is_late_skew (skew_by y.side y.time (first_time y.number before)) && same_side side y.side)

-- how many copies came late by a side in a stretch
abbrev pub late_in : Side → List Placed → ℕ
late_in side [] = 0
late_in side (y ∷ before) = (if joins_late side y before then 1 else 0) + late_in side before

abbrev pub lates_of : List (List Placed) → Sides
lates_of ss = record { a = sum_by (late_in A) ss; b = sum_by (late_in B) ss }
