use Rattle.std.proofs.Common.{rules}
use Rattle.sr_frame.proofs.fields.Mac.is_group.Goals as goal

pub returns : goal.returns
returns c = search rules
