use Rattle.sr_laws_network_cases.proofs.CutLanLemmas.{cut_lans_meet_the_premises}
use Rattle.sr_laws_network_cases.proofs.laws.a_cut_lan_of_two_meets_the_premises.Goals as goal

pub returns : goal.returns
returns c = cut_lans_meet_the_premises
