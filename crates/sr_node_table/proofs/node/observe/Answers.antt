use Rattle.std.proofs.Common.{rules}
use Rattle.sr_node_table.proofs.node.observe.Goals as goal

pub returns-else-is_live-clause-after : goal.returns-else-is_live-clause-after
returns-else-is_live-clause-after c = search rules
