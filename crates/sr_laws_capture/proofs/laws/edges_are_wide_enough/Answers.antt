use Rattle.sr_laws_capture.proofs.LosslessLemmas.{wide_enough}
use Rattle.sr_laws_capture.proofs.laws.edges_are_wide_enough.Goals as goal

pub returns : goal.returns
returns c = wide_enough
