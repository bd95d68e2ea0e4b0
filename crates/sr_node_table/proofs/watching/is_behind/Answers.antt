use Rattle.std.proofs.Common.{rules}
use Rattle.sr_node_table.proofs.watching.is_behind.Goals as goal

pub returns-in-None-default : goal.returns-in-None-default
returns-in-None-default c = search rules

pub returns-in-Some-Some : goal.returns-in-Some-Some
returns-in-Some-Some c = search rules
