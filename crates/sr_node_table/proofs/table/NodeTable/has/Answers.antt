use Rattle.std.proofs.Common.{rules}
use Rattle.sr_node_table.proofs.table.NodeTable.has.Goals as goal

pub returns : goal.returns
returns c = search rules
