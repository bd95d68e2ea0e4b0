use Rattle.std.proofs.Common.{◌≡◌, length}
use Rattle.sr_node.specs.Images.{node_state}
use Rattle.sr_node.specs.Outboxes.{box_at}
use Rattle.sr_script.specs.Replies.{emptied}
use Rattle.sr_script.proofs.unprinted.drop_waiting.Given as goal

abbrev pub invariant-parcels : goal.invariant-parcels
invariant-parcels g l =
    emptied (node_state (g.R.Role.meaning l.node.role) l.node.core) l.port ≡ emptied (node_state (g.R.Role.meaning l.fn.node.role) l.fn.node.core) l.port

abbrev pub decreases-parcels : goal.decreases-parcels
decreases-parcels g l = length (box_at (node_state (g.R.Role.meaning l.node.role) l.node.core).core.out l.port)
