use Rattle.std.proofs.Common.{rules}
use Rattle.sr_script.proofs.runs.run_status.Goals as goal

pub returns : goal.returns
returns g c = search rules
