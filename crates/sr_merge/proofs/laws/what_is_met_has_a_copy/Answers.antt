use Rattle.sr_merge.proofs.CopyLemmas.{what_is_met_has_a_copy}
use Rattle.sr_merge.proofs.laws.what_is_met_has_a_copy.Goals as goal

pub returns : goal.returns
returns c = what_is_met_has_a_copy
