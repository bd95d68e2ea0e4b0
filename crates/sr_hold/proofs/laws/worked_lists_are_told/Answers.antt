use Rattle.sr_hold.proofs.CaseLemmas.{worked}
use Rattle.sr_hold.proofs.laws.worked_lists_are_told.Goals as goal

pub returns : goal.returns
returns c = worked
