use Rattle.sr_pcapng.proofs.WrittenLemmas.{what_is_written_is_read}
use Rattle.sr_pcapng.proofs.laws.what_is_written_is_read.Goals as goal

pub returns : goal.returns
returns c = what_is_written_is_read
