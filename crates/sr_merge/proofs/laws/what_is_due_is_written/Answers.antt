use Rattle.sr_merge.proofs.DueLemmas.{what_is_due_is_written}
use Rattle.sr_merge.proofs.laws.what_is_due_is_written.Goals as goal

pub returns : goal.returns
returns c = what_is_due_is_written
