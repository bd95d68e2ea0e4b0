use Rattle.std.proofs.Common.{rules}
use Rattle.sr_redbox.proofs.hsr_box.HsrRoutingRouting.outlets.Goals as goal

pub returns : goal.returns
returns c = search rules
