use Rattle.sr_laws_plant.proofs.RingLawLemmas.{accounted}
use Rattle.sr_laws_plant.proofs.laws.copies_are_accounted_for.Goals as goal

pub returns : goal.returns
returns c = accounted
