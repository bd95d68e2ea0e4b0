use Rattle.sr_laws_plant.proofs.RingLawLemmas.{ring_hands_up_once}
use Rattle.sr_laws_plant.proofs.laws.ring_hands_up_once.Goals as goal

pub returns : goal.returns
returns c = ring_hands_up_once
