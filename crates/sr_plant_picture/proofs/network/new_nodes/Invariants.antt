use Rattle.std.proofs.Common.{◌≡◌, ◌≤◌, map}
use Rattle.sr_node.specs.Images.{node_state}
use Rattle.sr_forwarding.specs.RoleImages.{role_of}
use Rattle.sr_plant_script.specs.Members.{new_nodes, routed_as}
use Rattle.sr_plant_picture.proofs.network.new_nodes.Given as goal

-- so many nodes so far, with room for all
abbrev pub invariant-loop-number : goal.invariant-loop-number
invariant-loop-number l = record {
  nodes : map (λ m. node_state (role_of (routed_as m.role.routing) m.role.mac) m.core) l.nodes.items ≡ new_nodes l.topology l.settings l.number;
  length : l.nodes.len ≡ l.number;
  room : l.count ≤ l.nodes.cap;
}
