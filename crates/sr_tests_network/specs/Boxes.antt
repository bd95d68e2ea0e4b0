-- Nodes of coupled networks, worked out.
use Rattle.std.specs.Prelude.{ℕ, Bool, List, [], ◌∷◌, ◌++◌}
use Rattle.sr_forwarding.specs.declared.kind.RoleKind.{RoleKind}
use Rattle.sr_forwarding.specs.declared.kind.RoleKind.TheVariants.{Danp, Danh}
use Rattle.sr_forwarding.specs.RoleImages.{role_of}
use Rattle.sr_node.specs.Images.{State, begun, plain_settings}
use Rattle.sr_plant.specs.Building.{is_plant}
use Rattle.sr_plant.specs.Coupled.{ring_lan_of, two_rings_of}

-- a new node of this kind, with the address 02:00:00:00:00:XX, XX being its number
abbrev pub new_of : RoleKind → ℕ → State
new_of kind number = begun (role_of kind (record { 0 = 2 ∷ 0 ∷ 0 ∷ 0 ∷ 0 ∷ number ∷ [] })) plain_settings

-- a ring of three nodes, of which two are of these kinds
abbrev pub ring_with : RoleKind → RoleKind → List State
ring_with first second = new_of first 0 ∷ new_of second 1 ∷ new_of Danh 2 ∷ []

-- they join the ring with LANs of one node
abbrev pub join_lans : RoleKind → RoleKind → Bool
join_lans first second =
    is_plant (ring_lan_of (ring_with first second) (new_of Danp 3 ∷ [])) (ring_with first second ++ new_of Danp 3 ∷ [])

-- two rings of two nodes of these kinds are joined
abbrev pub join_rings : RoleKind → RoleKind → RoleKind → RoleKind → Bool
join_rings a b c d =
    is_plant (two_rings_of (new_of a 0 ∷ new_of b 1 ∷ []) (new_of c 2 ∷ new_of d 3 ∷ []))
    (new_of a 0 ∷ new_of b 1 ∷ new_of c 2 ∷ new_of d 3 ∷ [])
