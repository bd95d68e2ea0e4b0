use Rattle.sr_laws_capture.proofs.LosslessLemmas.{inner_leave}
use Rattle.sr_laws_capture.proofs.laws.inner_spans_leave_out.Goals as goal

pub returns : goal.returns
returns c = inner_leave
