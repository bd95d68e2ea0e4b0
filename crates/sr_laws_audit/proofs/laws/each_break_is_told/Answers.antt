use Rattle.sr_laws_audit.proofs.OutcomeLemmas.{each_break}
use Rattle.sr_laws_audit.proofs.laws.each_break_is_told.Goals as goal

pub returns : goal.returns
returns c = each_break
