use Rattle.std.proofs.Common.{rules}
use Rattle.sr_capture_script.proofs.merge.next.is_not_before.Goals as goal

pub returns-in-Some : goal.returns-in-Some
returns-in-Some c = search rules
