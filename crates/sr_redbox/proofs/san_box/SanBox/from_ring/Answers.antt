use Rattle.std.proofs.Common.{rules}
use Rattle.sr_redbox.proofs.san_box.SanBox.from_ring.Goals as goal

pub returns-then-header : goal.returns-then-header
returns-then-header c = search rules

pub returns-then-eq-2 : goal.returns-then-eq-2
returns-then-eq-2 c = search rules

pub returns-then-is_group : goal.returns-then-is_group
returns-then-is_group c = search rules

pub returns-then-proxies : goal.returns-then-proxies
returns-then-proxies c = search rules

pub returns-then-header-2 : goal.returns-then-header-2
returns-then-header-2 c = search rules

pub returns-else-header-2 : goal.returns-else-header-2
returns-else-header-2 c = search rules
