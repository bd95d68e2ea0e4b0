use Rattle.sr_laws_dup.proofs.StartLemmas.{each_pair_is_new_after_a_start}
use Rattle.sr_laws_dup.proofs.laws.each_pair_is_new_after_a_start.Goals as goal

pub returns : goal.returns
returns c = each_pair_is_new_after_a_start
