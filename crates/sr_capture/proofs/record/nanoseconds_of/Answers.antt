use Rattle.std.proofs.Common.{rules}
use Rattle.sr_capture.proofs.record.nanoseconds_of.Goals as goal

pub returns-in-Nano-clause-value : goal.returns-in-Nano-clause-value
returns-in-Nano-clause-value c = search rules
