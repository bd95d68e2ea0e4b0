-- Where frames go: a table for each kind of role, of which the first line that fits holds. A line is an inlet, a case of
-- the header, and the outlets; an inlet that a table does not list has none.
use Rattle.std.specs.Prelude.{◌≡◌, ℕ, ◌/◌, ◌==◌, ◌||◌, Bool, List, [], ◌∷◌, ◌++◌, if◌then◌else◌}
use Rattle.sr_frame.specs.declared.ports.Port.{Port}
use Rattle.sr_frame.specs.declared.ports.Port.TheVariants.{H, A, B, C}
use Rattle.sr_frame.specs.Addresses.{mac_eq}
use Rattle.sr_forwarding.specs.declared.header.Header.{Header}
use Rattle.sr_forwarding.specs.declared.outlets.Outlets.{Outlets}
use Rattle.sr_forwarding.specs.declared.role_image.RoleImage.{RoleImage}
use Rattle.sr_forwarding.specs.declared.kind.RoleKind.{RoleKind}
use Rattle.sr_forwarding.specs.declared.kind.RoleKind.TheVariants.{Danp, Danh, San, Prp, Hsr}
use Rattle.sr_forwarding.specs.Outlets.{to, ring, is_nowhere}
use Rattle.sr_forwarding.specs.NetIds.{number_of}
use Rattle.sr_forwarding.specs.RoleImages.{is_proxied, owned, is_group}

-- the destination is the role's address
abbrev pub is_own : RoleImage → Header → Bool
is_own r h = mac_eq h.dst r.mac

-- the destination is a group address
abbrev pub to_group : Header → Bool
to_group h = is_group h.dst

-- the source is the role's address
abbrev pub is_from_role : RoleImage → Header → Bool
is_from_role r h = mac_eq h.src r.mac

-- a doubly attached node of a PRP network, at a LAN
abbrev pub danp_from_lan : RoleImage → Header → Outlets
danp_from_lan r h =
    if h.supervision then to []
    else if is_own r h || to_group h then to (H ∷ [])
    else to []

abbrev pub danp_routes : RoleImage → Header → Port → Outlets
danp_routes r h H = to (A ∷ B ∷ [])
danp_routes r h A = danp_from_lan r h
danp_routes r h B = danp_from_lan r h
danp_routes r h C = to []

-- a doubly attached node of an HSR ring, at a ring port
abbrev pub danh_from_ring : RoleImage → Header → Port → Outlets
danh_from_ring r h inlet =
    if is_from_role r h then to []
    else if h.supervision then to (ring inlet)
    else if is_own r h then to (H ∷ [])
    else if to_group h then to (H ∷ ring inlet)
    else to (ring inlet)

abbrev pub danh_routes : RoleImage → Header → Port → Outlets
danh_routes r h H = to (A ∷ B ∷ [])
danh_routes r h A = danh_from_ring r h A
danh_routes r h B = danh_from_ring r h B
danh_routes r h C = to []

-- a RedBox between a ring and nodes that know no redundancy: from the host, from the ring, from those nodes
abbrev pub san_from_host : RoleImage → Header → ℕ → Outlets
san_from_host r h now =
    if h.supervision then to (A ∷ B ∷ [])
    else if to_group h then to (A ∷ B ∷ C ∷ [])
    else if is_proxied r h.dst now then to (C ∷ [])
    else if h.dst_known then to (A ∷ B ∷ [])
    else to (A ∷ B ∷ C ∷ [])

abbrev pub san_from_ring : RoleImage → Header → Port → ℕ → Outlets
san_from_ring r h inlet now =
    if is_from_role r h || is_proxied r h.src now then to []
    else if h.supervision then to (ring inlet)
    else if is_own r h then to (H ∷ [])
    else if to_group h then to (H ∷ ring inlet ++ C ∷ [])
    else if is_proxied r h.dst now then to (C ∷ [])
    else if h.dst_known then to (ring inlet)
    else to (ring inlet ++ C ∷ [])

abbrev pub san_from_interlink : RoleImage → Header → ℕ → Outlets
san_from_interlink r h now =
    if h.supervision then to []
    else if is_own r h then to (H ∷ [])
    else if to_group h then to (H ∷ A ∷ B ∷ [])
    else if is_proxied r h.dst now then to []
    else to (A ∷ B ∷ [])

abbrev pub san_routes : RoleImage → Header → Port → ℕ → Outlets
san_routes r h H now = san_from_host r h now
san_routes r h A now = san_from_ring r h A now
san_routes r h B now = san_from_ring r h B now
san_routes r h C now = san_from_interlink r h now

-- a RedBox whose interlink is one LAN of a PRP network, or another ring: from the ring, with the interlink where the
-- frame goes on to it, and from the interlink
abbrev pub box_from_ring : RoleImage → Header → Port → List Port → Outlets
box_from_ring r h inlet interlink =
    if is_from_role r h then to []
    else if is_own r h then to (H ∷ [])
    else if h.supervision then to (ring inlet ++ interlink)
    else if to_group h then to (H ∷ ring inlet ++ interlink)
    else to (ring inlet ++ interlink)

abbrev pub box_from_interlink : RoleImage → Header → Outlets
box_from_interlink r h =
    if is_from_role r h then to []
    else if is_own r h then to (H ∷ [])
    else if h.supervision then to (A ∷ B ∷ [])
    else if to_group h then to (H ∷ A ∷ B ∷ [])
    else to (A ∷ B ∷ [])

abbrev pub box_routes : RoleImage → Header → Port → List Port → Outlets
box_routes r h H interlink = to (A ∷ B ∷ C ∷ [])
box_routes r h A interlink = box_from_ring r h A interlink
box_routes r h B interlink = box_from_ring r h B interlink
box_routes r h C interlink = box_from_interlink r h

-- a ring frame that came from this PRP network does not go back into it: the path of its tag is twice the network's number,
-- and 1 more for LAN B
abbrev pub interlink_unless_from : ℕ → Header → List Port
interlink_unless_from net h = if h.path / 2 == net then [] else C ∷ []

abbrev pub routes_of : RoleKind → RoleImage → Header → Port → ℕ → Outlets
routes_of Danp r h inlet now = danp_routes r h inlet
routes_of Danh r h inlet now = danh_routes r h inlet
routes_of San r h inlet now = san_routes r h inlet now
routes_of (Prp lan net) r h inlet now = box_routes r h inlet (interlink_unless_from (number_of net) h)
routes_of Hsr r h inlet now = box_routes r h inlet (C ∷ [])

-- where a frame goes, by the role, what its header says, and the inlet where it came in
abbrev pub routes : RoleImage → Header → Port → ℕ → Outlets
routes r h inlet now = routes_of r.kind r h inlet now

-- no route of such a role depends on whether the destination is known as a node
abbrev pub IgnoresKnown : RoleKind → Type 0
IgnoresKnown kind = (r : RoleImage) (h : Header) (known : Bool) (inlet : Port) (now : ℕ) →
    routes_of kind r (record h { dst_known = known }) inlet now ≡ routes_of kind r h inlet now

-- of the frames from A and B, such a role wants exactly those nowhere of which it owns the source
abbrev pub DropsOnlyOwnSources : RoleKind → Type 0
DropsOnlyOwnSources kind = (r : RoleImage) (h : Header) (now : ℕ) →
    (is_nowhere (routes_of kind r h A now) ≡ owned r h.src now)
    × (is_nowhere (routes_of kind r h B now) ≡ owned r h.src now)
