-- What a node of any role comes to, as its callers see it.
use Rattle.std.specs.Prelude.{◌≡◌, ℕ, List, Some}
use Rattle.sr_frame.specs.declared.ports.Port.{Port}
use Rattle.sr_forwarding.specs.Encoding.{IsWritten}
use Rattle.sr_forwarding.specs.Kinds.{carriage}
use Rattle.sr_forwarding.specs.Parcels.{ParcelImage}
use Rattle.sr_forwarding.specs.RoleImages.{role_of}
use Rattle.sr_node.specs.declared.event.Answer.TheVariants as answer
use Rattle.sr_node.specs.Images.{State, begun}
use Rattle.sr_node.specs.Outboxes.{box_at, first_of}
use Rattle.sr_node.specs.States.{state_of}
use Rattle.sr_node.specs.Taking.{Took}
use Rattle.sr_endpoint.specs.AnyRoles.{image_of}
use Rattle.sr_endpoint.specs.declared.endpoint.Endpoint.{Endpoint}
use Rattle.sr_endpoint.specs.declared.setup.Setup.{Setup}

-- the state of its node
abbrev pub state_by : Endpoint → State
state_by e = state_of image_of e.node

-- the state of a new node of this setup
abbrev pub new_state : Setup → State
new_state setup = begun (role_of setup.kind setup.mac) setup.settings

-- the first parcel that waits at a port goes out as these octets
abbrev pub IsFirstOut : State → Port → List ℕ → State → Type 0
IsFirstOut s port octets t =
    (p : ParcelImage)
    × (first_of (box_at s.core.out port) ≡ Some p)
    × IsWritten (carriage s.role.kind port) p.form p octets
    × Took s port (answer.Taken (Some p)) t
