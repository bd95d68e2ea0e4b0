use Rattle.std.proofs.Common.{rules}
use Rattle.sr_script.proofs.status_lines.append_numbers.Goals as goal

pub returns-in-Ok-clause-ok : goal.returns-in-Ok-clause-ok
returns-in-Ok-clause-ok c = search rules
