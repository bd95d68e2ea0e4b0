use Rattle.sr_plant.specs.Images.{plant_state}
use Rattle.sr_plant.specs.Plants.{IsInOrder}
use Rattle.sr_tests_network.proofs.plants.steps.play.Given as goal

-- the plant is in order
abbrev pub invariant-loop-index : goal.invariant-loop-index
invariant-loop-index g l = IsInOrder (plant_state g.R.Role.meaning l.plant)
