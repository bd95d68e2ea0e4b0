use Rattle.std.proofs.Common.{rules}
use Rattle.sr_sequence.proofs.Seq.next.Goals as goal

pub returns : goal.returns
returns c = search rules
