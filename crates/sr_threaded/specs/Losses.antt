-- How much was lost in all.
use Rattle.std.specs.Prelude.{ℕ, ◌+◌, ◌-◌, ◌^◌, min, List, [], ◌∷◌}
use Rattle.sr_lines.specs.Handed.{lost_of}
use Rattle.sr_threaded.specs.declared.kit.LineEnd.{LineEnd}

-- with so many before, and those of these lines one after the other, up to the greatest number
abbrev pub lost_from : {F : Type 0} → ℕ → List (LineEnd F) → ℕ
lost_from n [] = n
lost_from n (e ∷ es) = lost_from (min (n + lost_of e.line) (2 ^ 64 - 1)) es
