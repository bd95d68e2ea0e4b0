use Rattle.sr_pcapng.proofs.WrittenLemmas.{names_are_read}
use Rattle.sr_pcapng.proofs.laws.names_are_read.Goals as goal

pub returns : goal.returns
returns c = names_are_read
