use Rattle.std.proofs.Common.{rules}
use Rattle.sr_node_table.proofs.table.NodeTable.try_clone.Goals as goal

pub returns-clause-table : goal.returns-clause-table
returns-clause-table c = search rules

pub invariant_of-result : goal.invariant_of-result
invariant_of-result c = search rules
