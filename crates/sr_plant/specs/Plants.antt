-- A plant as data: nodes, and what is between them.
use Rattle.std.specs.Prelude.{◌≡◌, ℕ, ◌<◌, ◌≤◌, Bool, List, length, Some, slice_get}
use Rattle.sr_forwarding.specs.Parcels.{ParcelImage}
use Rattle.sr_node.specs.Images.{State}
use Rattle.sr_node.specs.Outboxes.{boxes_empty}
use Rattle.sr_laws_plant.specs.Lists.{Each}
use Rattle.sr_plant.specs.declared.topology.Topology.{Topology}
use Rattle.sr_plant.specs.Limits.{most_members}
use Rattle.sr_plant.specs.Topologies.{link_count, kind_of, IsJoinedAs}
use Rattle.sr_plant.specs.Copies.{Copy}

-- What clauses see of the copies in flight: the copies, and room for so many more parcels and copies.
pub record FlightValue : Type 0 where
  pub copies : List Copy
  pub parcels : ℕ
  pub places : ℕ

-- What clauses see of the traffic.
pub record TrafficValue : Type 0 where
  pub flight : FlightValue
  pub cut : List Bool
  pub clock : ℕ

-- How the nodes are joined, each node, the copies in flight, of each link whether it is cut, the clock in milliseconds, and what each node
-- handed up to its host, oldest first.
pub record Plant : Type 0 where
  pub topology : Topology
  pub nodes : List State
  pub flight : List Copy
  pub cut : List Bool
  pub clock : ℕ
  pub handed : List (List ParcelImage)

abbrev pub plant_of : Topology → List State → TrafficValue → List (List ParcelImage) → Plant
plant_of topology nodes traffic handed = record {
  topology = topology;
  nodes = nodes;
  flight = traffic.flight.copies;
  cut = traffic.cut;
  clock = traffic.clock;
  handed = handed;
}

-- Nothing waits at an outlet of the node.
abbrev pub IsEmptied : State → Type 0
IsEmptied s = s.core.out ≡ boxes_empty

-- Each node is of the kind that the topology has at its place.
abbrev pub AreKinds : Topology → List State → Type 0
AreKinds t ns = (k : ℕ) (n : State) → slice_get ns k ≡ Some n → n.role.kind ≡ kind_of t k

-- As a plant is between its events: it has 32 nodes at most, they are joined as its topology says and of its kinds, and nothing waits in
-- them; each link and each host has its place, and each copy in flight leads to a node.
pub record IsInOrder (s : Plant) : Type 0 where
  pub size : length s.nodes ≤ most_members
  pub joined : IsJoinedAs s.topology (length s.nodes)
  pub kinds : AreKinds s.topology s.nodes
  pub emptied : Each IsEmptied s.nodes
  pub links : length s.cut ≡ link_count s.topology (length s.nodes)
  pub hosts : length s.handed ≡ length s.nodes
  pub receivers : Each (λ c. c.hop.to.node < length s.nodes) s.flight
