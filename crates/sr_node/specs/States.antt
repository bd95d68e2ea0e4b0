-- A node as one value.
use Rattle.sr_forwarding.specs.declared.role_image.RoleImage.{RoleImage}
use Rattle.sr_node.specs.declared.node.NodeOf.{NodeOf}
use Rattle.sr_node.specs.Images.{State, node_state}

-- the state of a node, where this is the image of each role
abbrev pub state_of : {R : Type 0} → (R → RoleImage) → NodeOf R → State
state_of meaning n = node_state (meaning n.role) n.core
