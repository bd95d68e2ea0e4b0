use Rattle.sr_forwarding.proofs.WritingLemmas.{written_once}
use Rattle.sr_forwarding.proofs.laws.writings_are_unique.Goals as goal

pub returns : goal.returns
returns c = written_once
