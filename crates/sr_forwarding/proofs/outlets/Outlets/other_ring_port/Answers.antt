use Rattle.std.proofs.Common.{rules}
use Rattle.sr_forwarding.proofs.outlets.Outlets.other_ring_port.Goals as goal

pub returns-in-A : goal.returns-in-A
returns-in-A c = search rules
