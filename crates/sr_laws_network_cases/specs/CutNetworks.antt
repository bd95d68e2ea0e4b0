-- Runs of LANs and of coupled networks of real nodes, worked out: links are cut, and a host's frame comes to another node, also in another
-- part, by those that are left.
use Rattle.std.specs.Prelude.{◌≡◌, ℕ, List, [], ◌∷◌, ◌++◌, map, None, Some, slice_get}
use Rattle.sr_forwarding.specs.declared.kind.RoleKind.{RoleKind}
use Rattle.sr_forwarding.specs.declared.kind.RoleKind.TheVariants.{Danp, Danh, Prp, Hsr}
use Rattle.sr_forwarding.specs.declared.net_id.NetId.TheVariants.{One}
use Rattle.sr_forwarding.specs.Parcels.{ParcelImage}
use Rattle.sr_forwarding.specs.RoleImages.{role_of}
use Rattle.sr_node.specs.declared.mode.Settings.{Settings}
use Rattle.sr_node.specs.Limits.{first_number}
use Rattle.sr_node.specs.Starts.{Start}
use Rattle.sr_plant.specs.declared.event.PlantEvent.{PlantEvent}
use Rattle.sr_plant.specs.declared.event.PlantEvent.TheVariants.{Send, Carry, Cut}
use Rattle.sr_plant.specs.declared.shapes.RingLanShape.{RingLanShape}
use Rattle.sr_plant.specs.declared.shapes.TwoRingsShape.{TwoRingsShape}
use Rattle.sr_plant.specs.declared.topology.Topology.{Topology}
use Rattle.sr_plant.specs.declared.topology.Topology.TheVariants.{TwinLan, RingLan, TwoRings}
use Rattle.sr_plant.specs.Plants.{Plant}
use Rattle.sr_laws_plant_runs.specs.Histories.{HaveOwnAddresses}
use Rattle.sr_laws_plant_runs.specs.PlantRuns.{Turn, PlantRun}
use Rattle.sr_laws_plant_runs.specs.Traffic.{IsWithinLimits}
use Rattle.sr_laws_plant_runs.specs.Unbroken.{IsFrameSent}
use Rattle.sr_laws_plant_runs.specs.WorkedRun.{address}
use Rattle.sr_prp_trailer.specs.declared.trailer.Lan.TheVariants as lan

-- a node of this kind with the nth address, in its own mode and of its own width
abbrev pub node_of : RoleKind → ℕ → Settings → Start
node_of kind n settings = record { role = role_of kind (address n); settings = settings }

-- a frame from one address to another: both, the type of IPv4, and no payload
abbrev pub frame_between : ℕ → ℕ → List ℕ
frame_between from to = (address to).0 ++ (address from).0 ++ 0x08 ∷ 0x00 ∷ []

-- These turns are a run of such a network with these events that meets all that its laws ask for, though copies were lost, and in which
-- this node handed the frame up once: padded, under the first number of a node.
pub record CrossesPastCuts (t : Topology) (starts : List Start) (asked : List PlantEvent) (frame : List ℕ) (receiver : ℕ)
    (turns : List Turn) (s : Plant) : Type 0 where
  pub events : map (λ turn. turn.event) turns ≡ asked
  pub run : PlantRun t starts turns s
  pub own : HaveOwnAddresses starts
  pub limits : IsWithinLimits starts turns
  pub quiet : s.flight ≡ []
  pub parcel : ParcelImage
  pub up : slice_get s.handed receiver ≡ Some (parcel ∷ [])
  pub sent : IsFrameSent frame (record { 0 = first_number }) parcel

-- two nodes of two LANs
abbrev pub small_lans : Settings → Settings → List Start
small_lans a b = node_of Danp 1 a ∷ node_of Danp 2 b ∷ []

-- The first node is cut off LAN A, and its host sends a frame to the second one: one copy comes over LAN B. The newest first.
abbrev pub sent_past_lan_a : List PlantEvent
sent_past_lan_a = Carry 0 ∷ Send 0 (frame_between 1 2) ∷ Cut 0 ∷ []

-- there is such a run of the two, whatever their modes and widths
abbrev pub CutLansMeetThePremises : Type 0
CutLansMeetThePremises = (a b : Settings) → (turns : List Turn) × (s : Plant)
    × CrossesPastCuts TwinLan (small_lans a b) sent_past_lan_a (frame_between 1 2) 1 turns s

-- a ring of three nodes, of which 0 and 1 are the boxes of LAN A and of LAN B, and a doubly attached node of these LANs
abbrev pub small_shape : RingLanShape
small_shape = record { ring = 3; lan = 1; box_a = 0; box_b = 1; net = One }

abbrev pub small_ring_lan : Settings → Settings → Settings → Settings → List Start
small_ring_lan a b c d =
    node_of (Prp lan.A One) 1 a ∷ node_of (Prp lan.B One) 2 b ∷ node_of Danh 3 c ∷ node_of Danp 4 d ∷ []

-- The node of the LANs is cut off LAN A, and the boxes from each other. Its host sends a frame to the third node of the ring; one copy
-- comes over LAN B to the box there, and one from there to that node. The newest first.
abbrev pub sent_over_lan_b : List PlantEvent
sent_over_lan_b = Carry 0 ∷ Carry 0 ∷ Send 3 (frame_between 4 3) ∷ Cut 0 ∷ Cut 3 ∷ []

-- there is such a run of the four, whatever their modes and widths
abbrev pub CutRingLansMeetThePremises : Type 0
CutRingLansMeetThePremises = (a b c d : Settings) → (turns : List Turn) × (s : Plant)
    × CrossesPastCuts (RingLan small_shape) (small_ring_lan a b c d) sent_over_lan_b (frame_between 4 3) 2 turns s

-- two rings of two nodes each, of which 0 and 2 are boxes that are joined
abbrev pub pair_shape : TwoRingsShape
pair_shape = record { left = 2; right = 2; first = record { left = 0; right = 2 }; second = None }

abbrev pub small_two_rings : Settings → Settings → Settings → Settings → List Start
small_two_rings a b c d = node_of Hsr 1 a ∷ node_of Danh 2 b ∷ node_of Hsr 3 c ∷ node_of Danh 4 d ∷ []

-- A link of each ring is cut. The host of the left ring's other node sends a frame to that of the right one's: one copy comes to the box of
-- the left ring, one over the join, and one to the receiver. The newest first.
abbrev pub sent_over_the_join : List PlantEvent
sent_over_the_join = Carry 0 ∷ Carry 0 ∷ Carry 0 ∷ Send 1 (frame_between 2 4) ∷ Cut 3 ∷ Cut 1 ∷ []

abbrev pub CutTwoRingsMeetThePremises : Type 0
CutTwoRingsMeetThePremises = (a b c d : Settings) → (turns : List Turn) × (s : Plant)
    × CrossesPastCuts (TwoRings pair_shape) (small_two_rings a b c d) sent_over_the_join (frame_between 2 4) 3 turns s
