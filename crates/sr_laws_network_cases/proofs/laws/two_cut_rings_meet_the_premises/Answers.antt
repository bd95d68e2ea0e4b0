use Rattle.sr_laws_network_cases.proofs.CutTwoRingsLemmas.{cut_two_rings_meet_the_premises}
use Rattle.sr_laws_network_cases.proofs.laws.two_cut_rings_meet_the_premises.Goals as goal

pub returns : goal.returns
returns c = cut_two_rings_meet_the_premises
