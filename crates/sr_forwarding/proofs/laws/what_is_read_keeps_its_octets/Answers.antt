use Rattle.sr_forwarding.proofs.WritingLemmas.{read_whole}
use Rattle.sr_forwarding.proofs.laws.what_is_read_keeps_its_octets.Goals as goal

pub returns : goal.returns
returns c = read_whole
