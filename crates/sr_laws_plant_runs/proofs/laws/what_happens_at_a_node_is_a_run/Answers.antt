use Rattle.sr_laws_plant_runs.proofs.NodeTurnLemmas.{nodes_run}
use Rattle.sr_laws_plant_runs.proofs.laws.what_happens_at_a_node_is_a_run.Goals as goal

pub returns : goal.returns
returns c = nodes_run c.what_waits_can_be_taken.ensures.nodes
