use Rattle.sr_dup_snapshots.proofs.RecutLemmas.{readings-are-one}
use Rattle.sr_dup_snapshots.proofs.laws.readings_are_one.Goals as goal

pub returns : goal.returns
returns c width octets s t one two = readings-are-one width octets s t one two
