use Rattle.sr_laws_audit.proofs.ListCaseLemmas.{worked_out}
use Rattle.sr_laws_audit.proofs.laws.worked_lines_are_told.Goals as goal

pub returns : goal.returns
returns c = worked_out
