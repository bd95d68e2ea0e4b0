use Rattle.sr_forwarding.proofs.ReadingLemmas.{reads_once}
use Rattle.sr_forwarding.proofs.laws.readings_are_unique.Goals as goal

pub returns : goal.returns
returns c = reads_once
