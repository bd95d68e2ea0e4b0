use Rattle.std.proofs.Common.{rules}
use Rattle.sr_node_table.proofs.table.NodeTable.prune.Goals as goal

pub returns-clause-table : goal.returns-clause-table
returns-clause-table c = search rules
