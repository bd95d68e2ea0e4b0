use Rattle.sr_plant_script.proofs.NewPlants.{makes_plant}
use Rattle.sr_plant_script.proofs.laws.setups_make_plants.Goals as goal

pub returns : goal.returns
returns c setup = makes_plant setup.topology setup.settings setup.nodes setup.sized
