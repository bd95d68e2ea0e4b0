use Rattle.std.proofs.Common.{rules}
use Rattle.sr_capture_script.proofs.scripting.append_counts.Goals as goal

pub returns-clause-ok : goal.returns-clause-ok
returns-clause-ok g c = search rules
