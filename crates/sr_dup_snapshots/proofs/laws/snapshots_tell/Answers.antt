use Rattle.sr_dup_snapshots.proofs.RecutLemmas.{snapshots-tell}
use Rattle.sr_dup_snapshots.proofs.laws.snapshots_tell.Goals as goal

pub returns : goal.returns
returns c v w octets s t one two = snapshots-tell v w octets s t one two
