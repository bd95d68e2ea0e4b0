use Rattle.sr_laws_capture.proofs.LimitedLemmas.{verdicts_end_limited}
use Rattle.sr_laws_capture.proofs.laws.verdicts_end_by_limits.Goals as goal

pub returns : goal.returns
returns c = verdicts_end_limited
