use Rattle.std.proofs.Common.{rules}
use Rattle.sr_capture_script.proofs.shifts.delay_of.Goals as goal

pub returns-in-Ok-clause-some : goal.returns-in-Ok-clause-some
returns-in-Ok-clause-some c = search rules
