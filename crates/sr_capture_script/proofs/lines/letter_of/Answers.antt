use Rattle.std.proofs.Common.{rules}
use Rattle.sr_capture_script.proofs.lines.letter_of.Goals as goal

pub returns-in-B : goal.returns-in-B
returns-in-B c = search rules
