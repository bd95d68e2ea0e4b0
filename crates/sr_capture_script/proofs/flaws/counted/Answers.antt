use Rattle.std.proofs.Common.{rules}
use Rattle.sr_capture_script.proofs.flaws.counted.Goals as goal

pub returns-in-Some-Long : goal.returns-in-Some-Long
returns-in-Some-Long c = search rules
