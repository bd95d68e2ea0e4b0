use Rattle.std.proofs.Common.{rules}
use Rattle.sr_forwarding.proofs.danp.DanpRoutingRouting.kind.Goals as goal

pub returns : goal.returns
returns c = search rules
