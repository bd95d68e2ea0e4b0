use Rattle.sr_pcapng.proofs.WrittenLemmas.{comments_are_read}
use Rattle.sr_pcapng.proofs.laws.comments_are_read.Goals as goal

pub returns : goal.returns
returns c = comments_are_read
