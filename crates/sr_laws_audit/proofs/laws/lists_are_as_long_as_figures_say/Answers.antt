use Rattle.sr_laws_audit.proofs.KindLemmas.{as_figures_say}
use Rattle.sr_laws_audit.proofs.laws.lists_are_as_long_as_figures_say.Goals as goal

pub returns : goal.returns
returns c = as_figures_say
