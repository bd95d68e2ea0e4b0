use Rattle.std.proofs.Common.{rules}
use Rattle.sr_frame.proofs.owned.FramePartialEq.eq.Goals as goal

pub returns : goal.returns
returns c = search rules
