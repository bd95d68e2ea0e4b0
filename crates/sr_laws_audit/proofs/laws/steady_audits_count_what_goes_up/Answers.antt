use Rattle.sr_laws_audit.proofs.SteadyLemmas.{counts_what_goes_up}
use Rattle.sr_laws_audit.proofs.laws.steady_audits_count_what_goes_up.Goals as goal

pub returns : goal.returns
returns c = counts_what_goes_up
