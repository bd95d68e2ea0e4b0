use Rattle.std.proofs.Common.{rules}
use Rattle.sr_redbox.proofs.ring_boxes.outlets.Goals as goal

pub returns-in-H : goal.returns-in-H
returns-in-H c = search rules
