use Rattle.std.proofs.Common.{rules}
use Rattle.sr_node_table.proofs.table.NodeTable.begin.Goals as goal

pub returns-clause-after : goal.returns-clause-after
returns-clause-after c = search rules

pub returns-then-is_full_now-clause-answer : goal.returns-then-is_full_now-clause-answer
returns-then-is_full_now-clause-answer c = search rules

pub returns-then-is_full_now-clause-after : goal.returns-then-is_full_now-clause-after
returns-then-is_full_now-clause-after c = search rules

pub returns-in_err-hold-clause-full : goal.returns-in_err-hold-clause-full
returns-in_err-hold-clause-full c = search rules

pub returns-clause-answer : goal.returns-clause-answer
returns-clause-answer c = search rules

pub returns-clause-full : goal.returns-clause-full
returns-clause-full c = search rules
