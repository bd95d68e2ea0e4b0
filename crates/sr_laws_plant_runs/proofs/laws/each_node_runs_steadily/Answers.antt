use Rattle.sr_laws_plant_runs.proofs.NodeSteadyLemmas.{nodes_run_steadily}
use Rattle.sr_laws_plant_runs.proofs.laws.each_node_runs_steadily.Goals as goal

pub returns : goal.returns
returns c = nodes_run_steadily c.members_are_steady.ensures
