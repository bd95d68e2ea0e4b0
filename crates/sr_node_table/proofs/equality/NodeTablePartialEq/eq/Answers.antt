use Rattle.std.proofs.Common.{rules}
use Rattle.sr_node_table.proofs.equality.NodeTablePartialEq.eq.Goals as goal

pub returns-then-same_alarms : goal.returns-then-same_alarms
returns-then-same_alarms c = search rules
