use Rattle.sr_laws_plant.proofs.LanLawLemmas.{lans_hand_up_the_ideal}
use Rattle.sr_laws_plant.proofs.laws.lans_hand_up_the_ideal.Goals as goal

pub returns : goal.returns
returns c = lans_hand_up_the_ideal
