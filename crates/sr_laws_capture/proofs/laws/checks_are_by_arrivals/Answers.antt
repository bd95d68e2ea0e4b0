use Rattle.sr_laws_capture.proofs.ExactLemmas.{checks_are}
use Rattle.sr_laws_capture.proofs.laws.checks_are_by_arrivals.Goals as goal

pub returns : goal.returns
returns c = checks_are
