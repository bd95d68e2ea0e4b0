use Rattle.std.proofs.Common.{rules}
use Rattle.sr_capture_script.proofs.choice.Choice.is_wanted.Goals as goal

pub returns : goal.returns
returns c = search rules
