use Rattle.std.proofs.Common.{rules}
use Rattle.sr_frame.proofs.owned.Frame.of.Goals as goal

pub returns : goal.returns
returns c = search rules
