use Rattle.sr_laws_audit.proofs.OutcomeLemmas.{each_number}
use Rattle.sr_laws_audit.proofs.laws.each_number_is_told.Goals as goal

pub returns : goal.returns
returns c = each_number
