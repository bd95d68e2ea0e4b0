use Rattle.sr_audit.proofs.CallLemmas.{add_up}
use Rattle.sr_audit.proofs.laws.calls_add_up.Goals as goal

pub returns : goal.returns
returns c = add_up
