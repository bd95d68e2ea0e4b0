-- Figures that tell of faults of a network.
use Rattle.std.specs.Prelude.{ℕ, ◌-◌, nat_lt, Bool, ◌||◌, List, [], ◌∷◌}
use Rattle.sr_audit.specs.declared.source.Figures.{Figures}

-- the last of the classes of skews, which has no bound
abbrev pub last_class : List ℕ → ℕ
last_class [] = 0
last_class (n ∷ []) = n
last_class (n ∷ m ∷ rest) = last_class (m ∷ rest)

-- frames came by one side alone or by none, or copies more than once, or more than 400 ms apart
abbrev pub tells_of_faults : Figures → Bool
tells_of_faults f = nat_lt 0 (f.tally.alone.a - f.edges.a) || (nat_lt 0 (f.tally.alone.b - f.edges.b)
    || (nat_lt 0 f.tally.repeats.a || (nat_lt 0 f.tally.repeats.b || (nat_lt 0 f.neither || nat_lt 0 (last_class f.skews.classes)))))
