use Rattle.sr_laws_network_cases.proofs.CutRingLemmas.{cut_rings_meet_the_premises}
use Rattle.sr_laws_network_cases.proofs.laws.a_cut_ring_of_two_meets_the_premises.Goals as goal

pub returns : goal.returns
returns c = cut_rings_meet_the_premises
