use Rattle.std.proofs.Common.{rules}
use Rattle.sr_forwarding.proofs.outlets.Outlets.ports.Goals as goal

pub loop-port-preserved : goal.loop-port-preserved
loop-port-preserved c = search rules
