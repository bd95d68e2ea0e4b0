use Rattle.sr_capture.proofs.Unique.{packets_are_unique}
use Rattle.sr_capture.proofs.laws.packets_are_unique.Goals as goal

pub returns : goal.returns
returns c = packets_are_unique
