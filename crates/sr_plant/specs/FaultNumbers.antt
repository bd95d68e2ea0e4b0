-- The numbers of faults (choice of this project).
use Rattle.std.specs.Prelude.{ℕ}
use Rattle.sr_plant.specs.declared.fault.PlantFault.{PlantFault}
use Rattle.sr_plant.specs.declared.fault.PlantFault.TheVariants as fault

abbrev pub plant_number : PlantFault → ℕ
plant_number fault.NoSuchNode = 1
plant_number fault.NoSuchCopy = 2
plant_number fault.ClockBack = 3
plant_number (fault.Node fault) = 4
plant_number fault.BadPlant = 5
plant_number fault.NoMemory = 6
