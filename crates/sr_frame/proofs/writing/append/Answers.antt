use Rattle.std.proofs.Common.{rules}
use Rattle.sr_frame.proofs.writing.append.Goals as goal

pub put-requires : goal.put-requires
put-requires c = search rules
