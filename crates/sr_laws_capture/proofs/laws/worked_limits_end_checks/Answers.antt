use Rattle.sr_laws_capture.proofs.LimitCaseLemmas.{limits_worked}
use Rattle.sr_laws_capture.proofs.laws.worked_limits_end_checks.Goals as goal

pub returns : goal.returns
returns c = limits_worked
