use Rattle.sr_laws_plant.proofs.LosslessLemmas.{lossless_two_rings}
use Rattle.sr_laws_plant.proofs.laws.lossless_two_rings_hand_up_the_ideal.Goals as goal

pub returns : goal.returns
returns c = lossless_two_rings
