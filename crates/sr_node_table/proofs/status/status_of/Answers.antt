use Rattle.std.proofs.Common.{rules}
use Rattle.sr_node_table.proofs.status.status_of.Goals as goal

pub returns : goal.returns
returns c = search rules
