use Rattle.sr_watch.proofs.WorkedLemmas.{worked}
use Rattle.sr_watch.proofs.laws.a_worked_source_is_told.Goals as goal

pub returns : goal.returns
returns c = worked
