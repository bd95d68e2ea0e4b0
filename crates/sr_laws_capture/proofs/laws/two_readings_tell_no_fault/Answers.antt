use Rattle.sr_laws_capture.proofs.LosslessLemmas.{two_readings}
use Rattle.sr_laws_capture.proofs.laws.two_readings_tell_no_fault.Goals as goal

pub returns : goal.returns
returns c = two_readings
