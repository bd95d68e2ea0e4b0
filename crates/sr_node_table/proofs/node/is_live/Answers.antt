use Rattle.std.proofs.Common.{rules}
use Rattle.sr_node_table.proofs.node.is_live.Goals as goal

pub returns : goal.returns
returns c = search rules
