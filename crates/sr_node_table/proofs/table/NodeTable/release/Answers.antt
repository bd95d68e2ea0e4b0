use Rattle.std.proofs.Common.{rules}
use Rattle.sr_node_table.proofs.table.NodeTable.release.Goals as goal

pub returns-clause-held : goal.returns-clause-held
returns-clause-held c = search rules
