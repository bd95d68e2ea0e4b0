use Rattle.std.proofs.Common.{rules}
use Rattle.sr_capture.proofs.numbers.half_at.Goals as goal

pub returns-in-Big : goal.returns-in-Big
returns-in-Big c = search rules
