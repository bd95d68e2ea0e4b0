use Rattle.sr_laws_plant.proofs.CutJoinedRing.{cut_joined_ring_loses_nothing}
use Rattle.sr_laws_plant.proofs.laws.a_cut_joined_ring_loses_nothing.Goals as goal

pub returns : goal.returns
returns c = cut_joined_ring_loses_nothing
