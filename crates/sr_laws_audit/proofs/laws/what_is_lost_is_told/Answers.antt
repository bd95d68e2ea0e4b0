use Rattle.sr_laws_audit.proofs.CaseLemmas.{told}
use Rattle.sr_laws_audit.proofs.laws.what_is_lost_is_told.Goals as goal

pub returns : goal.returns
returns c = told
