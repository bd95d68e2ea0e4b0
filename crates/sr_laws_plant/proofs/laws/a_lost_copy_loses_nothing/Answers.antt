use Rattle.sr_laws_plant.proofs.LostCopy.{lost_copy_loses_nothing}
use Rattle.sr_laws_plant.proofs.laws.a_lost_copy_loses_nothing.Goals as goal

pub returns : goal.returns
returns c = lost_copy_loses_nothing
