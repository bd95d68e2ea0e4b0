use Rattle.sr_laws_capture.proofs.LosslessLemmas.{recorders_silent}
use Rattle.sr_laws_capture.proofs.laws.recorders_tell_no_fault.Goals as goal

pub returns : goal.returns
returns c = recorders_silent
