use Rattle.sr_plant.specs.Images.{plant_state}
use Rattle.sr_plant.specs.Plants.{IsInOrder}
use Rattle.sr_tests_network.proofs.plants.steps.go_past.Given as goal

-- the plant is in order
abbrev pub invariant-loop : goal.invariant-loop
invariant-loop g l = IsInOrder (plant_state g.R.Role.meaning l.plant)
