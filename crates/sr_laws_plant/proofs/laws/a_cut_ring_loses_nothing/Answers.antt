use Rattle.sr_laws_plant.proofs.CutRing.{cut_ring_loses_nothing}
use Rattle.sr_laws_plant.proofs.laws.a_cut_ring_loses_nothing.Goals as goal

pub returns : goal.returns
returns c = cut_ring_loses_nothing
