-- A node at its networks.
use Rattle.sr_forwarding.specs.RoleImages.{role_of}
use Rattle.sr_forwarding.specs.declared.kind.RoleKind.{RoleKind}
use Rattle.sr_node.specs.Images.{State, begun}
use Rattle.sr_script.specs.declared.setups.Setup.{Setup}

-- a node, and the role by whose framings its ports are attached
pub record Station : Type 0 where
  pub role : RoleKind
  pub node : State

-- a node of this role that came to this state
abbrev pub at_work : RoleKind → State → Station
at_work role s = record { role = role; node = s }

-- a new node of this role and address
abbrev pub start_of : Setup → Station
start_of setup = record { role = setup.role; node = begun (role_of setup.role setup.mac) setup.settings }
