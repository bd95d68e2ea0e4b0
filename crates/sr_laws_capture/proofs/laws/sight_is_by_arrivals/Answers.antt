use Rattle.sr_laws_capture.proofs.SeeingLemmas.{sight_is}
use Rattle.sr_laws_capture.proofs.laws.sight_is_by_arrivals.Goals as goal

pub returns : goal.returns
returns c = sight_is
