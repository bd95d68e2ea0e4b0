use Rattle.sr_audit.proofs.LawLemmas.{lost_add_up}
use Rattle.sr_audit.proofs.laws.lost_copies_add_up.Goals as goal

pub returns : goal.returns
returns c = lost_add_up
