use Rattle.std.proofs.Common.{◌≡◌, drop}
use Rattle.sr_plant.specs.Images.{states_of}
use Rattle.sr_plant.specs.Building.{has_address}
use Rattle.sr_plant.proofs.building.has_address.Given as goal

-- what is left to look at says whether one has it
abbrev pub invariant-loop-node : goal.invariant-loop-node
invariant-loop-node g l =
    has_address l.mac (states_of g.R.Role.meaning l.nodes)
    ≡ has_address l.mac (drop l.node-index (states_of g.R.Role.meaning l.nodes))
