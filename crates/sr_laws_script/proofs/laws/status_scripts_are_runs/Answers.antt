use Rattle.sr_laws_script.proofs.StatusLemmas.{status_scripts_are_runs}
use Rattle.sr_laws_script.proofs.laws.status_scripts_are_runs.Goals as goal

pub returns : goal.returns
returns c = status_scripts_are_runs c.what_waits_can_be_taken.ensures.nodes
