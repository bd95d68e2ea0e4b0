use Rattle.sr_laws_plant.proofs.RingLawLemmas.{exact_ring_loses_nothing}
use Rattle.sr_laws_plant.proofs.laws.ring_loses_nothing_with_more_bars.Goals as goal

pub returns : goal.returns
returns c = exact_ring_loses_nothing
