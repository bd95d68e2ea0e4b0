use Rattle.sr_laws_network_cases.proofs.CutRingLanLemmas.{cut_ring_lans_meet_the_premises}
use Rattle.sr_laws_network_cases.proofs.laws.a_cut_ring_with_lans_meets_the_premises.Goals as goal

pub returns : goal.returns
returns c = cut_ring_lans_meet_the_premises
