use Rattle.sr_laws_audit.proofs.ExactLemmas.{tests_are}
use Rattle.sr_laws_audit.proofs.laws.tests_are_by_arrivals.Goals as goal

pub returns : goal.returns
returns c = tests_are
