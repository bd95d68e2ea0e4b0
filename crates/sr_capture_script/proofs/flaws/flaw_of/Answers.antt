use Rattle.std.proofs.Common.{rules}
use Rattle.sr_capture_script.proofs.flaws.flaw_of.Goals as goal

pub returns-in-Cut : goal.returns-in-Cut
returns-in-Cut c = search rules
