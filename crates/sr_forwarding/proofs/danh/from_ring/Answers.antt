use Rattle.std.proofs.Common.{rules}
use Rattle.sr_forwarding.proofs.danh.from_ring.Goals as goal

pub returns-then-is_group : goal.returns-then-is_group
returns-then-is_group c = search rules

pub returns-then-eq-2 : goal.returns-then-eq-2
returns-then-eq-2 c = search rules

pub returns-else-is_group : goal.returns-else-is_group
returns-else-is_group c = search rules
