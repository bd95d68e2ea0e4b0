-- How the nodes of a plant are joined.
use Rattle.std.specs.Prelude.{◌≡◌, ℕ, ◌+◌, ◌*◌, ◌<◌, ◌==◌, nat_lt, List, [], ◌∷◌, length, Option, None, Some, if◌then◌else◌}
use Rattle.sr_frame.specs.declared.ports.Port.{Port}
use Rattle.sr_prp_trailer.specs.declared.trailer.Lan.TheVariants as lan
use Rattle.sr_forwarding.specs.Framings.{FramingImage}
use Rattle.sr_forwarding.specs.Kinds.{carriage}
use Rattle.sr_forwarding.specs.declared.kind.RoleKind.{RoleKind}
use Rattle.sr_forwarding.specs.declared.kind.RoleKind.TheVariants.{Danp, Danh, Prp, Hsr}
use Rattle.sr_laws_plant.specs.Ledger.{Net}
use Rattle.sr_laws_plant.specs.Rings.{ring}
use Rattle.sr_laws_plant.specs.TwinLans.{twin_lans}
use Rattle.sr_laws_plant.specs.RingLans.{Shape, ring_lan}
use Rattle.sr_laws_plant.specs.TwoRings.{TwoShape, two_rings, is_joined, AreJoins}
use Rattle.sr_plant.specs.declared.shapes.RingLanShape.{RingLanShape}
use Rattle.sr_plant.specs.declared.shapes.TwoRingsShape.{TwoRingsShape}
use Rattle.sr_plant.specs.declared.shapes.Join.{Join}
use Rattle.sr_plant.specs.declared.topology.Topology.{Topology}
use Rattle.sr_plant.specs.declared.topology.Topology.TheVariants.{Ring, TwinLan, RingLan, TwoRings}

-- A ring with two LANs, as the laws of networks have it.
abbrev pub lan_shape : RingLanShape → Shape
lan_shape s = record { ring = s.ring; lan = s.lan; box_a = s.box_a; box_b = s.box_b }

abbrev pub joined_pair : Join → ℕ × ℕ
joined_pair j = (j.left, j.right)

abbrev pub second_join : Option Join → List (ℕ × ℕ)
second_join None = []
second_join (Some j) = joined_pair j ∷ []

abbrev pub joins_of : TwoRingsShape → List (ℕ × ℕ)
joins_of s = joined_pair s.first ∷ second_join s.second

-- Two rings, as the laws of networks have them.
abbrev pub two_shape : TwoRingsShape → TwoShape
two_shape s = record { left = s.left; right = s.right; joins = joins_of s }

-- Where that goes which a node puts out, of so many nodes. In a ring link i joins B of node i with A of the next, the last with node 0; of
-- two LANs link i is that of node i in LAN A, and n + i that in LAN B. Of a ring with two LANs the ring's nodes and links come first, then
-- the links of LAN A, of its nodes in order and of its box, then those of LAN B. Of two rings the left one's nodes and links come first,
-- then the right one's, and last the links between boxes.
abbrev pub net_of : Topology → ℕ → Net
net_of Ring n = ring n
net_of TwinLan n = twin_lans n
net_of (RingLan s) n = ring_lan (lan_shape s)
net_of (TwoRings s) n = two_rings (two_shape s)

-- How many links there are.
abbrev pub link_count : Topology → ℕ → ℕ
link_count Ring n = n
link_count TwinLan n = n + n
link_count (RingLan s) n = s.ring + 2 * s.lan + 2
link_count (TwoRings s) n = s.left + s.right + length (joins_of s)

-- The kind of node k of the ring: a box of LAN A, a box of LAN B, or a doubly attached node.
abbrev pub kind_in_ring : RingLanShape → ℕ → RoleKind
kind_in_ring s k = if k == s.box_a then Prp lan.A s.net else if k == s.box_b then Prp lan.B s.net else Danh

-- The kind of node k: a doubly attached node of an HSR ring (IEC 62439-3 clause 5), or of two LANs of a PRP network (clause 4), or a RedBox
-- between these, or between two rings.
abbrev pub kind_of : Topology → ℕ → RoleKind
kind_of Ring k = Danh
kind_of TwinLan k = Danp
kind_of (RingLan s) k = if nat_lt k s.ring then kind_in_ring s k else Danp
kind_of (TwoRings s) k = if is_joined (joins_of s) k then Hsr else Danh

-- How frames are carried at a port of node k.
abbrev pub framing_of : Topology → ℕ → Port → FramingImage
framing_of t k port = carriage (kind_of t k) port

-- The ring and the LANs have so many nodes together, and the boxes are nodes of the ring.
pub record IsRingLan (s : RingLanShape) (n : ℕ) : Type 0 where
  pub sum : s.ring + s.lan ≡ n
  pub a_inside : s.box_a < s.ring
  pub b_inside : s.box_b < s.ring

-- The two rings have so many nodes together, and their joins lead from the left ring to the right one.
pub record AreTwoRings (s : TwoRingsShape) (n : ℕ) : Type 0 where
  pub sum : s.left + s.right ≡ n
  pub joins : AreJoins (two_shape s) (joins_of s)

-- So many nodes can be joined like this.
abbrev pub IsJoinedAs : Topology → ℕ → Type 0
IsJoinedAs Ring n = Unit {0}
IsJoinedAs TwinLan n = Unit {0}
IsJoinedAs (RingLan s) n = IsRingLan s n
IsJoinedAs (TwoRings s) n = AreTwoRings s n
