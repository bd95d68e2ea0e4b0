use Rattle.sr_laws_capture.proofs.LimitCaseLemmas.{ends_refused}
use Rattle.sr_laws_capture.proofs.laws.false_ends_are_refused.Goals as goal

pub returns : goal.returns
returns c = ends_refused
