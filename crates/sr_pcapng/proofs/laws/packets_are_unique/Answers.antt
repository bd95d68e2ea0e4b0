use Rattle.sr_pcapng.proofs.Unique.{packets_are_unique}
use Rattle.sr_pcapng.proofs.laws.packets_are_unique.Goals as goal

pub returns : goal.returns
returns c = packets_are_unique
