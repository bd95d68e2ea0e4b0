use Rattle.sr_laws_plant.proofs.StoppedCopies.{copies_stop_in_mode_x}
use Rattle.sr_laws_plant.proofs.laws.copies_stop_in_mode_x.Goals as goal

pub returns : goal.returns
returns c = copies_stop_in_mode_x
