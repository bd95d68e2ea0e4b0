use Rattle.sr_laws_plant.proofs.RingLawLemmas.{ring_loses_nothing}
use Rattle.sr_laws_plant.proofs.laws.ring_loses_nothing.Goals as goal

pub returns : goal.returns
returns c = ring_loses_nothing
