use Rattle.std.proofs.Common.{◌≡◌, drop}
use Rattle.sr_plant.specs.Images.{states_of}
use Rattle.sr_plant.specs.Building.{are_apart_from}
use Rattle.sr_plant.proofs.building.are_apart_from.Given as goal

-- what is left to look at says whether they are apart
abbrev pub invariant-loop-node : goal.invariant-loop-node
invariant-loop-node g l =
    are_apart_from (states_of g.R.Role.meaning l.nodes) (states_of g.R.Role.meaning l.others)
    ≡ are_apart_from (drop l.node-index (states_of g.R.Role.meaning l.nodes)) (states_of g.R.Role.meaning l.others)
