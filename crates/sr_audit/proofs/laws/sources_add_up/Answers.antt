use Rattle.sr_audit.proofs.SourceLemmas.{sources_sum}
use Rattle.sr_audit.proofs.laws.sources_add_up.Goals as goal

pub returns : goal.returns
returns c = sources_sum
