use Rattle.sr_laws_plant.proofs.RingLanLemmas.{none_goes_back}
use Rattle.sr_laws_plant.proofs.laws.no_frame_goes_back.Goals as goal

pub returns : goal.returns
returns c = none_goes_back
