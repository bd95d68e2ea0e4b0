use Rattle.std.proofs.Common.{◌≡◌, length}
use Rattle.sr_node.specs.Images.{node_state}
use Rattle.sr_node.specs.Outboxes.{box_at}
use Rattle.sr_session.specs.Octets.{StillHolds}
use Rattle.sr_script.specs.Replies.{emptied}
use Rattle.sr_script.proofs.PrintedLines.{Printed}
use Rattle.sr_script.proofs.printing.append_waiting.Given as goal

abbrev pub invariant-loop-port : goal.invariant-loop-port
invariant-loop-port g l = record {
  lines : Printed l.fn.role l.port (box_at (node_state (g.R.Role.meaning l.fn.node.role) l.fn.node.core).core.out l.port)
      (box_at (node_state (g.R.Role.meaning l.node.role) l.node.core).core.out l.port) l.fn.text l.text;
  kept : StillHolds l.fn.text l.text;
  node : emptied (node_state (g.R.Role.meaning l.node.role) l.node.core) l.port ≡ emptied (node_state (g.R.Role.meaning l.fn.node.role) l.fn.node.core) l.port;
}

abbrev pub decreases-loop-port : goal.decreases-loop-port
decreases-loop-port g l = length (box_at (node_state (g.R.Role.meaning l.node.role) l.node.core).core.out l.port)
