use Rattle.sr_laws_dup.specs.SteadyLemmas.{over_the_end_is_steady}
use Rattle.sr_laws_dup.proofs.laws.copies_over_the_end_are_steady.Goals as goal

pub returns : goal.returns
returns c = over_the_end_is_steady
