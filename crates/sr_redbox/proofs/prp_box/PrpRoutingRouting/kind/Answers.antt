use Rattle.std.proofs.Common.{rules}
use Rattle.sr_redbox.proofs.prp_box.PrpRoutingRouting.kind.Goals as goal

pub returns : goal.returns
returns c = search rules
