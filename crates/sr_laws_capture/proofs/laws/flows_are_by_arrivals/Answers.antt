use Rattle.sr_laws_capture.proofs.SeeingLemmas.{flows_are}
use Rattle.sr_laws_capture.proofs.laws.flows_are_by_arrivals.Goals as goal

pub returns : goal.returns
returns c = flows_are
