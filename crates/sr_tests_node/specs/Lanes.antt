-- Sets of lanes, written out.
use Rattle.std.specs.Prelude.{filter, List, [], ◌∷◌}
use Rattle.sr_dup_window.specs.declared.lane_sets.Lane.{Lane}
use Rattle.sr_dup_window.specs.declared.lane_sets.Lane.TheVariants.{H, A, B, C, GotA, GotB}
use Rattle.sr_dup_window.specs.declared.lane_sets.Lanes.{Lanes}
use Rattle.sr_dup_window.specs.LaneSets.{has}

-- the lanes of the set, in the order H, A, B, C, GotA, GotB
abbrev pub listed : Lanes → List Lane
listed lanes = filter (has lanes) (H ∷ A ∷ B ∷ C ∷ GotA ∷ GotB ∷ [])
