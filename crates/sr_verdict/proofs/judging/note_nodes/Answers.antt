use Rattle.sr_verdict.proofs.NodeLemmas.{node_step, node_all}
use Rattle.sr_verdict.proofs.judging.note_nodes.Goals as goal

pub loop-mac-preserved : goal.loop-mac-preserved
loop-mac-preserved c =
    node_step _ _ _ _ _ _ _ _ c.in-Some.ensures.steps c.node_verdict.ensures c.in_ok-note_one.ensures c.loop-mac.invariant

pub returns : goal.returns
returns c = node_all _ _ _ _ c.in-None.ensures.steps.0 c.loop-mac.invariant
