use Rattle.sr_laws_capture.proofs.EndingLemmas.{verdicts_end}
use Rattle.sr_laws_capture.proofs.laws.verdicts_end_as_judged.Goals as goal

pub returns : goal.returns
returns c = verdicts_end
