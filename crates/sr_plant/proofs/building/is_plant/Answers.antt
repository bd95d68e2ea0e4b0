use Rattle.std.proofs.Common.{arith}
use Rattle.std.proofs.lemmas.Grind.{common_steps}
use Rattle.sr_plant.proofs.building.is_plant.Goals as goal

pub returns-then-are_fit : goal.returns-then-are_fit
returns-then-are_fit g c = grind (arith, common_steps)
