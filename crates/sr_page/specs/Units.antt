-- The units in which times of an axis are told.
use Rattle.std.specs.Prelude.{ℕ, nat_lt, List, ◌∷◌, codes, if◌then◌else◌}

-- how many nanoseconds the greatest unit has of which a step of an axis has some, and its name (that of a microsecond is U+00B5 and "s")
abbrev pub unit_nanos : ℕ → ℕ
unit_nanos step =
    if nat_lt step 1000 then 1 else (if nat_lt step 1000000 then 1000 else (if nat_lt step 1000000000 then 1000000 else 1000000000))

abbrev pub unit_name : ℕ → List ℕ
unit_name step =
    if nat_lt step 1000 then codes "ns" else (if nat_lt step 1000000 then 0xC2 ∷ 0xB5 ∷ codes "s"
    else (if nat_lt step 1000000000 then codes "ms" else codes "s"))
