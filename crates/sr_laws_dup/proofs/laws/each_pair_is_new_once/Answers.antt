use Rattle.sr_laws_dup.specs.RunLemmas.{each_pair_is_new_once}
use Rattle.sr_laws_dup.proofs.laws.each_pair_is_new_once.Goals as goal

pub returns : goal.returns
returns c = each_pair_is_new_once
