use Rattle.std.proofs.Common.{◌≡◌, length}
use Rattle.sr_plant.specs.Images.{states_of}
use Rattle.sr_plant.specs.Building.{are_apart}
use Rattle.sr_plant.proofs.building.are_apart.Given as goal

-- what is left to look at says whether they are apart
abbrev pub invariant-loop-rest : goal.invariant-loop-rest
invariant-loop-rest g l =
    are_apart (states_of g.R.Role.meaning l.nodes)
    ≡ are_apart (states_of g.R.Role.meaning l.rest)

abbrev pub decreases-loop-rest : goal.decreases-loop-rest
decreases-loop-rest g l = length l.rest
