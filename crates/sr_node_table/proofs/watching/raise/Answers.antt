use Rattle.std.proofs.Common.{rules}
use Rattle.sr_node_table.proofs.watching.raise.Goals as goal

pub returns-in-Some : goal.returns-in-Some
returns-in-Some c = search rules
