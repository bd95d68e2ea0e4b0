-- Of what nodes a plant is made, and how it begins.
use Rattle.std.specs.Prelude.{ℕ, suc, ◌+◌, Bool, true, false, not, ◌&&◌, ◌==◌, nat_le, nat_lt, Option}
use Rattle.std.specs.Prelude.{None, Some, List, [], ◌∷◌, length, replicate, ◌≡◌, Result, IfOk, OnOk, IfErr}
use Rattle.std.specs.List.{list_any}
use Rattle.sr_frame.specs.declared.fields.Mac.{Mac}
use Rattle.sr_frame.specs.Addresses.{mac_eq}
use Rattle.sr_prp_trailer.specs.declared.trailer.Lan.{Lan}
use Rattle.sr_prp_trailer.specs.declared.trailer.Lan.TheVariants as lan
use Rattle.sr_forwarding.specs.Parcels.{ParcelImage}
use Rattle.sr_forwarding.specs.contracts.kind.RoleKindPartialEq.TheImpl as kind
use Rattle.sr_node.specs.Images.{State}
use Rattle.sr_node.specs.Outboxes.{Outboxes}
use Rattle.sr_plant.specs.declared.shapes.RingLanShape.{RingLanShape}
use Rattle.sr_plant.specs.declared.shapes.TwoRingsShape.{TwoRingsShape}
use Rattle.sr_plant.specs.declared.shapes.Join.{Join}
use Rattle.sr_plant.specs.declared.topology.Topology.{Topology}
use Rattle.sr_plant.specs.declared.topology.Topology.TheVariants.{Ring, TwinLan, RingLan, TwoRings}
use Rattle.sr_plant.specs.declared.fault.PlantFault.{PlantFault}
use Rattle.sr_plant.specs.declared.fault.PlantFault.TheVariants.{BadPlant, NoMemory}
use Rattle.sr_plant.specs.Limits.{fewest_nodes, most_nodes, fewest_with_boxes, most_in_lans}
use Rattle.sr_plant.specs.Topologies.{link_count, kind_of}
use Rattle.sr_plant.specs.Plants.{Plant, IsInOrder}

abbrev pub is_lan : Lan → Lan → Bool
is_lan lan.A lan.A = true
is_lan lan.B lan.B = true
is_lan l m = false

abbrev pub is_empty : List ParcelImage → Bool
is_empty [] = true
is_empty (p ∷ ps) = false

-- No frame waits at an outlet.
abbrev pub has_nothing_waiting : Outboxes → Bool
has_nothing_waiting o = is_empty o.h && is_empty o.a && is_empty o.b && is_empty o.c

-- The node can be node k of a plant of this topology.
abbrev pub is_fit : Topology → ℕ → State → Bool
is_fit topology k n = kind.ghosts.eq n.role.kind (kind_of topology k) && has_nothing_waiting n.core.out

-- The nodes can be those of a plant of this topology from place k on.
abbrev pub are_fit : Topology → ℕ → List State → Bool
are_fit topology k [] = true
are_fit topology k (n ∷ ns) = is_fit topology k n && are_fit topology (suc k) ns

-- One of the nodes has this address.
abbrev pub has_address : Mac → List State → Bool
has_address mac ns = list_any (λ n. mac_eq n.role.mac mac) ns

-- No node of the first list has the address of one of the second.
abbrev pub are_apart_from : List State → List State → Bool
are_apart_from [] others = true
are_apart_from (n ∷ ns) others = not (has_address n.role.mac others) && are_apart_from ns others

-- No two nodes have one address.
abbrev pub are_apart : List State → Bool
are_apart [] = true
are_apart (n ∷ ns) = not (has_address n.role.mac ns) && are_apart ns

-- The number is not below the fewest and not above the most.
abbrev pub is_between : ℕ → ℕ → ℕ → Bool
is_between fewest most n = nat_le fewest n && nat_le n most

-- The boxes of the two LANs are two nodes of the ring.
abbrev pub has_boxes : RingLanShape → Bool
has_boxes s = nat_lt s.box_a s.ring && nat_lt s.box_b s.ring && not (s.box_a == s.box_b)

-- The join leads from a node of the left ring to one of the right ring.
abbrev pub is_join : TwoRingsShape → Join → Bool
is_join s j = nat_lt j.left s.left && nat_le s.left j.right && nat_lt j.right (s.left + s.right)

-- The second join, if there is one, joins two other nodes than the first.
abbrev pub is_second_join : TwoRingsShape → Option Join → Bool
is_second_join s None = true
is_second_join s (Some j) = is_join s j && not (j.left == s.first.left) && not (j.right == s.first.right)

-- So many nodes make such a network: 2 to 16 in a ring or in two LANs; 3 to 16 in a ring with 1 to 14 in LANs behind it; 2 to 16 in each of
-- two rings.
abbrev pub is_size : Topology → ℕ → Bool
is_size Ring n = is_between fewest_nodes most_nodes n
is_size TwinLan n = is_between fewest_nodes most_nodes n
is_size (RingLan s) n =
    is_between fewest_with_boxes most_nodes s.ring && is_between 1 most_in_lans s.lan && s.ring + s.lan == n && has_boxes s
is_size (TwoRings s) n =
    is_between fewest_nodes most_nodes s.left && is_between fewest_nodes most_nodes s.right && s.left + s.right == n
    && is_join s s.first && is_second_join s s.second

-- A plant is made of these nodes: they are as many as the topology joins, each has an address of its own and the kind that the topology has
-- at its place, and no frame waits in it.
abbrev pub is_plant : Topology → List State → Bool
is_plant topology ns = is_size topology (length ns) && are_fit topology 0 ns && are_apart ns

-- Neither list has more nodes than a ring may have.
abbrev pub are_few : List State → List State → Bool
are_few ns ms = nat_le (length ns) most_nodes && nat_le (length ms) most_nodes

-- A plant is made of the nodes of two lists, those of the second behind those of the first.
abbrev pub is_plant_of_both : Topology → List State → List State → Bool
is_plant_of_both topology ns ms =
    is_size topology (length ns + length ms) && are_fit topology 0 ns && are_fit topology (length ns) ms
    && are_apart ns && are_apart ms && are_apart_from ns ms

-- A new plant of these nodes: nothing is in flight, no link is cut, and nothing was handed up.
abbrev pub opening : Topology → List State → Plant
opening topology ns = record {
  topology = topology;
  nodes = ns;
  flight = [];
  cut = replicate (link_count topology (length ns)) false;
  clock = 0;
  handed = replicate (length ns) [];
}

-- Why a plant is not made: its nodes make none, or an allocation failed.
abbrev pub plant_fault : Bool → PlantFault
plant_fault true = NoMemory
plant_fault false = BadPlant

-- A network is made of these nodes, and begins in order, only where they make a plant; else the fault says why not.
pub record MakesPlant {T : Type 0} (result : Result T PlantFault) (plant : T → Plant) (topology : Topology) (ns : List State) : Type 0 where
  pub begun : IfOk result (λ made. plant made ≡ opening topology ns)
  pub in_order : IfOk result (λ made. IsInOrder (plant made))
  pub ok : OnOk result (is_plant topology ns ≡ true)
  pub err : IfErr result (λ fault. fault ≡ plant_fault (is_plant topology ns))
