use Rattle.sr_laws_audit.proofs.RunLemmas.{each_once}
use Rattle.sr_laws_audit.proofs.laws.each_number_is_listed_once.Goals as goal

pub returns : goal.returns
returns c = each_once
