use Rattle.sr_laws_plant.proofs.RingLawLemmas.{ring_is_steady}
use Rattle.sr_laws_plant.proofs.laws.ring_is_steady.Goals as goal

pub returns : goal.returns
returns c = ring_is_steady
