use Rattle.sr_laws_dup.specs.SteadyLemmas.{late_copies_are_steady}
use Rattle.sr_laws_dup.proofs.laws.late_copies_are_steady.Goals as goal

pub returns : goal.returns
returns c = late_copies_are_steady
