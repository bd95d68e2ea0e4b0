use Rattle.sr_audit.proofs.CallLemmas.{none_back}
use Rattle.sr_audit.proofs.laws.no_call_is_taken_back.Goals as goal

pub returns : goal.returns
returns c = none_back
