use Rattle.sr_laws_plant.proofs.LosslessLemmas.{lossless_ring_lan}
use Rattle.sr_laws_plant.proofs.laws.a_lossless_ring_lan_hands_up_the_ideal.Goals as goal

pub returns : goal.returns
returns c = lossless_ring_lan
