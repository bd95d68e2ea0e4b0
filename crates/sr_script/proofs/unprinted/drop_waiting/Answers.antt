use Rattle.std.proofs.Common.{ap, ◌∙◌, arith}
use Rattle.sr_node.specs.Images.{State, node_state}
use Rattle.sr_node.specs.Outboxes.{box_at}
use Rattle.sr_script.specs.Replies.{emptied}
use Rattle.sr_script.proofs.PrintedLines.{none_first, emptied_left, is_emptied}
use Rattle.sr_script.proofs.unprinted.drop_waiting.Goals as goal

pub parcels-preserved : goal.parcels-preserved
parcels-preserved g c =
    let s = node_state (g.R.Role.meaning c.parcels.node.role) c.parcels.node.core in
    ap (λ (u : State). emptied u c.args.port) c.drop_first.ensures.dropped.1 ∙ emptied_left s c.args.port ∙ c.parcels.invariant

pub returns : goal.returns
returns g c =
    let s = node_state (g.R.Role.meaning c.parcels.node.role) c.parcels.node.core in
    is_emptied s c.args.port (none_first (box_at s.core.out c.args.port) (omega arith)) ∙ c.parcels.invariant
