use Rattle.sr_laws_dup.proofs.StartLemmas.{starts_are_steady}
use Rattle.sr_laws_dup.proofs.laws.starts_are_steady.Goals as goal

pub returns : goal.returns
returns c = starts_are_steady
