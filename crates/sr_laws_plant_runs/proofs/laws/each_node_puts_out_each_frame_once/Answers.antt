use Rattle.sr_laws_plant_runs.proofs.NodeSteadyLemmas.{nodes_put_out_within}
use Rattle.sr_laws_plant_runs.proofs.NodeTurnLemmas.{nodes_put_out_once}
use Rattle.sr_laws_plant_runs.proofs.laws.each_node_puts_out_each_frame_once.Goals as goal

pub returns : goal.returns
returns c =
    let once = nodes_put_out_once c.what_waits_can_be_taken.ensures.nodes c.each_frame_goes_out_once.ensures.once in
    record { steady = once; within = nodes_put_out_within c.each_node_runs_steadily.ensures once }
