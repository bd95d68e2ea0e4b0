-- What the nodes of a threaded network and their hosts begin with.
use Rattle.std.specs.Prelude.{ℕ, zero, suc, List, [], ◌∷◌, ◌++◌}
use Rattle.sr_frame.specs.declared.ports.Port.TheVariants as port
use Rattle.sr_forwarding.specs.declared.own_role.OwnRole.{OwnRole}
use Rattle.sr_forwarding.specs.declared.port_framing.PortFraming.{PortFraming}
use Rattle.sr_forwarding.specs.declared.role_image.RoleImage.{RoleImage}
use Rattle.sr_forwarding.specs.Framings.{FramingImage}
use Rattle.sr_forwarding.specs.Kinds.{carriage}
use Rattle.sr_forwarding.specs.PortFramings.{carried_as}
use Rattle.sr_forwarding.specs.RoleImages.{role_of}
use Rattle.sr_node.specs.Images.{State, begun}
use Rattle.sr_node.specs.States.{state_of}
use Rattle.sr_plant_script.specs.declared.members.MemberRouting.{MemberRouting}
use Rattle.sr_plant_script.specs.Members.{mac_of, routed_as}
use Rattle.sr_threaded.specs.declared.kit.NodeKit.{NodeKit}
use Rattle.sr_threaded_script.specs.declared.host.Host.{Host}
use Rattle.sr_threaded_script.specs.declared.setup.ThreadedSetup.{ThreadedSetup}
use Rattle.sr_threaded_script.specs.Hosts.{HostImage, host_image, new_host}
use Rattle.sr_threaded_script.specs.Members.{member_kind}
use Rattle.sr_threaded_script.specs.Sent.{own_frames}

-- a node and its host as one value: its state, how its ports and the host's carry frames, and its host
pub record Beginning : Type 0 where
  pub node : State
  pub at_a : FramingImage
  pub at_b : FramingImage
  pub at_host : FramingImage
  pub host : HostImage

abbrev pub role_image : OwnRole MemberRouting → RoleImage
role_image r = role_of (routed_as r.routing) r.mac

abbrev pub beginning_of : NodeKit (OwnRole MemberRouting) PortFraming Host → Beginning
beginning_of k = record {
  node = state_of role_image k.node;
  at_a = carried_as k.a;
  at_b = carried_as k.b;
  at_host = carried_as k.host;
  host = host_image k.feed;
}

-- The node of this number: it is new, with the mode and the width of the setup, the role of its network and the address of its number;
-- its ports carry frames as its network does, and its host, which is new, is to send these.
abbrev pub starting_node : ThreadedSetup → ℕ → List (List ℕ) → Beginning
starting_node setup number frames = record {
  node = begun (role_of (member_kind setup.net) (mac_of number)) setup.settings;
  at_a = carriage (member_kind setup.net) port.A;
  at_b = carriage (member_kind setup.net) port.B;
  at_host = carriage (member_kind setup.net) port.H;
  host = new_host frames;
}

-- the first nodes, so many, each with the frames that its own host is to send
abbrev pub starting_nodes : ThreadedSetup → List (ℕ × List ℕ) → ℕ → List Beginning
starting_nodes setup sent zero = []
starting_nodes setup sent (suc n) = starting_nodes setup sent n ++ starting_node setup n (own_frames n sent) ∷ []
