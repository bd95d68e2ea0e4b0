use Rattle.std.proofs.Common.{rules}
use Rattle.sr_capture_script.proofs.merge.print.time_since.Goals as goal

pub returns : goal.returns
returns c = search rules
