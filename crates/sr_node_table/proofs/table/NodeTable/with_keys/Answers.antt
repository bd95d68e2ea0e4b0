use Rattle.std.proofs.Common.{rules}
use Rattle.sr_node_table.proofs.table.NodeTable.with_keys.Goals as goal

pub invariant_of-result : goal.invariant_of-result
invariant_of-result c = search rules
