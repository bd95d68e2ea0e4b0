use Rattle.sr_laws_capture.proofs.LosslessLemmas.{mirrors_silent}
use Rattle.sr_laws_capture.proofs.laws.mirrors_tell_no_fault.Goals as goal

pub returns : goal.returns
returns c = mirrors_silent
