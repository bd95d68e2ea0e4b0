use Rattle.std.proofs.Common.{rules}
use Rattle.sr_node_table.proofs.watching.late_port.Goals as goal

pub returns-then-is_behind : goal.returns-then-is_behind
returns-then-is_behind c = search rules

pub returns-then-is_behind-2 : goal.returns-then-is_behind-2
returns-then-is_behind-2 c = search rules
