-- What nodes put out, and where it leads.
use Rattle.std.specs.Prelude.{◌≡◌, ◌≢◌, ◌⊎◌, ℕ, zero, suc, ◌+◌, ◌-◌, ◌*◌, ◌<◌, ◌≤◌, ◌==◌, nat_lt, Bool, not, List, [], ◌∷◌}
use Rattle.std.specs.Prelude.{◌++◌, map, Option, None, Some, option_map, if◌then◌else◌}
use Rattle.std.specs.List.{filter}
use Rattle.std.specs.Option.{option_to_list}
use Rattle.sr_frame.specs.declared.ports.Port.{Port}
use Rattle.sr_frame.specs.declared.ports.Port.TheVariants.{H, A, B, C}
use Rattle.sr_forwarding.specs.Parcels.{ParcelImage}
use Rattle.sr_node.specs.Outboxes.{Outboxes}
use Rattle.sr_laws_plant.specs.Ledger.{Hop}
use Rattle.sr_laws_plant.specs.RingParts.{onward, backward}
use Rattle.sr_laws_plant.specs.Rings.{beyond}
use Rattle.sr_laws_plant.specs.TwoRings.{shifted}
use Rattle.sr_laws_plant.specs.Ways.{interlink_of}
use Rattle.sr_plant.specs.declared.shapes.RingLanShape.{RingLanShape}
use Rattle.sr_plant.specs.declared.shapes.TwoRingsShape.{TwoRingsShape}
use Rattle.sr_plant.specs.declared.topology.Topology.{Topology}
use Rattle.sr_plant.specs.declared.topology.Topology.TheVariants.{Ring, TwinLan, RingLan, TwoRings}
use Rattle.sr_plant.specs.Topologies.{net_of, joins_of}
use Rattle.sr_plant.specs.Copies.{Copy, is_stopped}

-- The copy of a parcel that node k puts out at an outlet, over a hop.
abbrev pub copy_over : ℕ → Port → ParcelImage → Hop → Copy
copy_over k o p h = record { hop = h; from = k; outlet = o; parcel = p }

-- The copies of a parcel that node k of n nodes puts out at an outlet: one for each hop from there.
abbrev pub copies_put : Topology → ℕ → ℕ → Port → ParcelImage → List Copy
copies_put t n k o p = map (copy_over k o p) (net_of t n k o)

-- The copies of all that waits at an outlet, in its order.
abbrev pub all_put : Topology → ℕ → ℕ → Port → List ParcelImage → List Copy
all_put t n k o [] = []
all_put t n k o (p ∷ ps) = copies_put t n k o p ++ all_put t n k o ps

-- The copies of all that a node puts out: outlet after outlet, in the order A, B, C.
abbrev pub put_out : Topology → ℕ → ℕ → Outboxes → List Copy
put_out t n k out = all_put t n k A out.a ++ (all_put t n k B out.b ++ all_put t n k C out.c)

-- The copies that are put on no link that is cut. The others are lost.
abbrev pub those_passing : List Bool → List Copy → List Copy
those_passing cut cs = filter (λ c. not (is_stopped cut c)) cs

-- The hop round a ring of n nodes, from a port of node k to node j.
abbrev pub ring_hop_to : ℕ → ℕ → Port → ℕ → Option Hop
ring_hop_to n k H j = None
ring_hop_to n k A j = if j == beyond n backward k then Some (record { to = record { node = j; port = B }; links = j ∷ [] }) else None
ring_hop_to n k B j = if j == beyond n onward k then Some (record { to = record { node = j; port = A }; links = k ∷ [] }) else None
ring_hop_to n k C j = None

-- The hop through two LANs of n nodes, from a port of node k to node j.
abbrev pub twin_hop_to : ℕ → ℕ → Port → ℕ → Option Hop
twin_hop_to n k H j = None
twin_hop_to n k A j = if j == k then None else Some (record { to = record { node = j; port = A }; links = (0 + k) ∷ (0 + j) ∷ [] })
twin_hop_to n k B j = if j == k then None else Some (record { to = record { node = j; port = B }; links = (n + k) ∷ (n + j) ∷ [] })
twin_hop_to n k C j = None

-- The hop through a LAN behind a ring of so many nodes: from node k, on its own link, to this port of node j, on the link of node j.
abbrev pub lan_hop_to : ℕ → Port → ℕ → ℕ → ℕ → ℕ → Option Hop
lan_hop_to ring port own first k j =
    if nat_lt j ring then None
    else if j == k then None
    else Some (record { to = record { node = j; port = port }; links = own ∷ (first + j) ∷ [] })

-- The hop from a node of the LANs to the box of this LAN, on the link of the box, or to another node of the LANs.
abbrev pub to_box_or_lan : ℕ → ℕ → ℕ → Port → ℕ → ℕ → ℕ → ℕ → Option Hop
to_box_or_lan ring box over port own first k j =
    if j == box then Some (record { to = interlink_of box; links = own ∷ over ∷ [] }) else lan_hop_to ring port own first k j

-- The hop over the link between two boxes, from node k to node j. Links are numbered in the order of the joins.
abbrev pub over_to : ℕ → List (ℕ × ℕ) → ℕ → ℕ → Option Hop
over_to link [] k j = None
over_to link (x ∷ xs) k j =
    if k == x.0 then (if j == x.1 then Some (record { to = interlink_of x.1; links = link ∷ [] }) else None)
    else if k == x.1 then (if j == x.0 then Some (record { to = interlink_of x.0; links = link ∷ [] }) else None)
    else over_to (link + 1) xs k j

-- The hop to a node of the right ring, where `to` gives the hops of that ring by itself.
abbrev pub beyond_left : ℕ → (ℕ → Option Hop) → ℕ → Option Hop
beyond_left left to j = if nat_lt j left then None else option_map (shifted left) (to (j - left))

-- The hop round a ring, or through the LANs behind it.
abbrev pub ring_lan_hop_to : RingLanShape → ℕ → Port → ℕ → Option Hop
ring_lan_hop_to s k H j = None
ring_lan_hop_to s k A j =
    if nat_lt k s.ring then ring_hop_to s.ring k A j else to_box_or_lan s.ring s.box_a (s.ring + s.lan) A k 0 k j
ring_lan_hop_to s k B j =
    if nat_lt k s.ring then ring_hop_to s.ring k B j
    else to_box_or_lan s.ring s.box_b (s.ring + 2 * s.lan + 1) B (s.lan + 1 + k) (s.lan + 1) k j
ring_lan_hop_to s k C j =
    if k == s.box_a then lan_hop_to s.ring A (s.ring + s.lan) 0 k j
    else if k == s.box_b then lan_hop_to s.ring B (s.ring + 2 * s.lan + 1) (s.lan + 1) k j
    else None

-- The hop round one of two rings, or from one ring to the other.
abbrev pub two_rings_hop_to : TwoRingsShape → ℕ → Port → ℕ → Option Hop
two_rings_hop_to s k H j = None
two_rings_hop_to s k A j =
    if nat_lt k s.left then ring_hop_to s.left k A j else beyond_left s.left (ring_hop_to s.right (k - s.left) A) j
two_rings_hop_to s k B j =
    if nat_lt k s.left then ring_hop_to s.left k B j else beyond_left s.left (ring_hop_to s.right (k - s.left) B) j
two_rings_hop_to s k C j = over_to (s.left + s.right) (joins_of s) k j

-- The hop from an outlet of node k of n nodes to node j, if there is one.
abbrev pub hop_to : Topology → ℕ → ℕ → Port → ℕ → Option Hop
hop_to Ring n k o j = ring_hop_to n k o j
hop_to TwinLan n k o j = twin_hop_to n k o j
hop_to (RingLan s) n k o j = ring_lan_hop_to s k o j
hop_to (TwoRings s) n k o j = two_rings_hop_to s k o j

-- The hops to the nodes below m.
abbrev pub hops_below : (ℕ → Option Hop) → ℕ → List Hop
hops_below to zero = []
hops_below to (suc m) = hops_below to m ++ option_to_list (to m)

-- No hop leads to another node than m.
abbrev pub LeadsOnlyTo : (ℕ → Option Hop) → ℕ → Type 0
LeadsOnlyTo to m = (j : ℕ) → j ≢ m → to j ≡ None

-- Of the nodes below n a hop leads at most to those from `first` on that are before `behind`.
abbrev pub LeadsWithin : (ℕ → Option Hop) → ℕ → ℕ → ℕ → Type 0
LeadsWithin to first behind n = (j : ℕ) → j < n → (j < first) ⊎ (behind ≤ j) → to j ≡ None
