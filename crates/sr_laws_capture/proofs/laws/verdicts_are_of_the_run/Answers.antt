use Rattle.sr_laws_capture.proofs.LimitCaseLemmas.{verdicts_are_one}
use Rattle.sr_laws_capture.proofs.laws.verdicts_are_of_the_run.Goals as goal

pub returns : goal.returns
returns c = verdicts_are_one
