use Rattle.sr_audit.proofs.LawLemmas.{add_up}
use Rattle.sr_audit.proofs.laws.copies_add_up.Goals as goal

pub returns : goal.returns
returns c = add_up
