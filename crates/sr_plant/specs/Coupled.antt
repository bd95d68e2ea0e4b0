-- How the nodes of coupled networks are joined, by their kinds.
use Rattle.std.specs.Prelude.{ℕ, suc, ◌+◌, Bool, true, false, ◌&&◌, nat_lt, nat_le, List, [], ◌∷◌}
use Rattle.std.specs.Prelude.{length, Option, None, Some, slice_get, if◌then◌else◌}
use Rattle.sr_prp_trailer.specs.declared.trailer.Lan.TheVariants as lan
use Rattle.sr_forwarding.specs.declared.kind.RoleKind.{RoleKind}
use Rattle.sr_forwarding.specs.declared.kind.RoleKind.TheVariants.{Prp, Hsr}
use Rattle.sr_forwarding.specs.declared.net_id.NetId.{NetId}
use Rattle.sr_forwarding.specs.declared.net_id.NetId.TheVariants.{One}
use Rattle.sr_node.specs.Images.{State}
use Rattle.sr_plant.specs.declared.shapes.RingLanShape.{RingLanShape}
use Rattle.sr_plant.specs.declared.shapes.TwoRingsShape.{TwoRingsShape}
use Rattle.sr_plant.specs.declared.shapes.Join.{Join}
use Rattle.sr_plant.specs.declared.coupled.Sought.{Sought}
use Rattle.sr_plant.specs.declared.coupled.Sought.TheVariants.{LanBox, RingBox}
use Rattle.sr_plant.specs.declared.topology.Topology.{Topology}
use Rattle.sr_plant.specs.declared.topology.Topology.TheVariants.{RingLan, TwoRings}
use Rattle.sr_plant.specs.Building.{is_lan}

-- A node of this kind is a box of this LAN, or a box between two rings.
abbrev pub is_sought : Sought → RoleKind → Bool
is_sought (LanBox l) (Prp m net) = is_lan l m
is_sought RingBox Hsr = true
is_sought sought kind = false

-- Of nodes from place k on, the place of the first such box at `from` or behind it, else the place behind all nodes.
abbrev pub box_place : Sought → ℕ → ℕ → List State → ℕ
box_place sought from k [] = k
box_place sought from k (n ∷ ns) =
    if nat_le from k && is_sought sought n.role.kind then k else box_place sought from (suc k) ns

-- The network of a box, and network 1 at any other node.
abbrev pub network_of : RoleKind → NetId
network_of (Prp lan net) = net
network_of kind = One

-- The network of the node at a place, if there is one, else network 1.
abbrev pub network_in : Option State → NetId
network_in None = One
network_in (Some n) = network_of n.role.kind

-- The first box of LAN A and the first of LAN B among the nodes of the ring join the ring with the LANs.
abbrev pub ring_lan_shape : List State → List State → RingLanShape
ring_lan_shape ring behind = record {
  ring = length ring;
  lan = length behind;
  box_a = box_place (LanBox lan.A) 0 0 ring;
  box_b = box_place (LanBox lan.B) 0 0 ring;
  net = network_in (slice_get ring (box_place (LanBox lan.A) 0 0 ring));
}

abbrev pub ring_lan_of : List State → List State → Topology
ring_lan_of ring behind = RingLan (ring_lan_shape ring behind)

-- The places of the first box between rings, and of the second.
abbrev pub first_box : List State → ℕ
first_box ns = box_place RingBox 0 0 ns

abbrev pub second_box : List State → ℕ
second_box ns = box_place RingBox (suc (first_box ns)) 0 ns

-- The second boxes of both rings are joined where both rings have one.
abbrev pub second_of : ℕ → ℕ → ℕ → ℕ → Option Join
second_of left right l r = if nat_lt l left && nat_lt r right then Some (record { left = l; right = left + r }) else None

-- The first boxes of both rings are joined, and so are the second ones.
abbrev pub two_rings_shape : List State → List State → TwoRingsShape
two_rings_shape left right = record {
  left = length left;
  right = length right;
  first = record { left = first_box left; right = length left + first_box right };
  second = second_of (length left) (length right) (second_box left) (second_box right);
}

abbrev pub two_rings_of : List State → List State → Topology
two_rings_of left right = TwoRings (two_rings_shape left right)
