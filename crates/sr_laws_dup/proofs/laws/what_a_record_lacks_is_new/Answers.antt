use Rattle.sr_laws_dup.specs.RunLemmas.{beyond_is_new}
use Rattle.sr_laws_dup.proofs.laws.what_a_record_lacks_is_new.Goals as goal

pub returns : goal.returns
returns c = beyond_is_new
