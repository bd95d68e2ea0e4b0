use Rattle.sr_laws_audit.proofs.FigureLemmas.{whole_no_fault}
use Rattle.sr_laws_audit.proofs.laws.whole_audits_tell_no_fault.Goals as goal

pub returns : goal.returns
returns c = whole_no_fault
