use Rattle.std.proofs.Common.{rules}
use Rattle.sr_redbox.proofs.ring_boxes.from_ring.Goals as goal

pub returns-then-is_group : goal.returns-then-is_group
returns-then-is_group c = search rules
