use Rattle.std.proofs.Common.{rules}
use Rattle.sr_proxy_table.proofs.table.learn_again.Goals as goal

pub returns-then-was_live-clause-after : goal.returns-then-was_live-clause-after
returns-then-was_live-clause-after c = search rules

pub returns-else-was_live-clause-after : goal.returns-else-was_live-clause-after
returns-else-was_live-clause-after c = search rules
