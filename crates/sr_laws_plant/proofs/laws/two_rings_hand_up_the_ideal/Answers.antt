use Rattle.sr_laws_plant.proofs.TwoRingsLemmas.{two_rings_hand_up_the_ideal}
use Rattle.sr_laws_plant.proofs.laws.two_rings_hand_up_the_ideal.Goals as goal

pub returns : goal.returns
returns c = two_rings_hand_up_the_ideal
