use Rattle.sr_laws_audit.proofs.ExactLemmas.{figures_are}
use Rattle.sr_laws_audit.proofs.laws.figures_are_by_arrivals.Goals as goal

pub returns : goal.returns
returns c = figures_are
