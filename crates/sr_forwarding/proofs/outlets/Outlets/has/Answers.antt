use Rattle.std.proofs.Common.{rules}
use Rattle.sr_forwarding.proofs.outlets.Outlets.has.Goals as goal

pub returns : goal.returns
returns c = search rules
