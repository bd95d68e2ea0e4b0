use Rattle.std.proofs.Common.{◌≡◌, ◌+◌, drop}
use Rattle.sr_plant.specs.Images.{states_of}
use Rattle.sr_plant.specs.Building.{are_fit}
use Rattle.sr_plant.proofs.building.are_fit.Given as goal

-- what is left to look at says whether all are
abbrev pub invariant-loop-place : goal.invariant-loop-place
invariant-loop-place g l =
    are_fit l.topology l.first (states_of g.R.Role.meaning l.nodes)
    ≡ are_fit l.topology (l.first + l.place) (drop l.place (states_of g.R.Role.meaning l.nodes))
