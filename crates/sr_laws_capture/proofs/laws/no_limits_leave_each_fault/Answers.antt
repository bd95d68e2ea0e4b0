use Rattle.sr_laws_capture.proofs.LimitedLemmas.{no_limits}
use Rattle.sr_laws_capture.proofs.laws.no_limits_leave_each_fault.Goals as goal

pub returns : goal.returns
returns c = no_limits
