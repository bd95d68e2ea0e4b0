use Rattle.sr_laws_script.proofs.NodeLemmas.{node_scripts_are_runs}
use Rattle.sr_laws_script.proofs.laws.node_scripts_are_runs.Goals as goal

pub returns : goal.returns
returns c = node_scripts_are_runs c.what_waits_can_be_taken.ensures.outlets c.what_waits_can_be_taken.ensures.taken
