use Rattle.sr_laws_plant.proofs.RingLanLemmas.{ring_lan_hands_up_the_ideal}
use Rattle.sr_laws_plant.proofs.laws.ring_lan_hands_up_the_ideal.Goals as goal

pub returns : goal.returns
returns c = ring_lan_hands_up_the_ideal
