-- Routes of a role never have the inlet; those of a box for nodes without redundancy are nowhere where it owns the source.
use Rattle.std.proofs.Common.{◌≡◌, ℕ, Bool, true, false, List, [], ◌∷◌, ◌++◌, refl}
use Rattle.std.specs.Prelude.{if◌then◌else◌, ◌||◌}
use Rattle.sr_frame.specs.declared.ports.Port.{Port}
use Rattle.sr_frame.specs.declared.ports.Port.TheVariants.{H, A, B, C}
use Rattle.sr_forwarding.specs.declared.header.Header.{Header}
use Rattle.sr_forwarding.specs.declared.outlets.Outlets.{Outlets}
use Rattle.sr_forwarding.specs.declared.role_image.RoleImage.{RoleImage}
use Rattle.sr_forwarding.specs.declared.kind.RoleKind.TheVariants.{San}
use Rattle.sr_forwarding.specs.Outlets.{has, to, ring, is_nowhere}
use Rattle.sr_forwarding.specs.RoleImages.{is_proxied, owned}
use Rattle.sr_forwarding.specs.Routes.{is_own, to_group, is_from_role, danh_from_ring, san_from_ring, box_from_ring, box_from_interlink, box_routes, routes_of, DropsOnlyOwnSources}

-- of sets that tests pick, none has a port
pick1 : (a0 : Bool) (o0 o1 : Outlets) (p : Port) → has o0 p ≡ false → has o1 p ≡ false → has (if a0 then o0 else o1) p ≡ false
pick1 true o0 o1 p h0 h1 = h0
pick1 false o0 o1 p h0 h1 = h1

pick2 : (a0 a1 : Bool) (o0 o1 o2 : Outlets) (p : Port) → has o0 p ≡ false → has o1 p ≡ false → has o2 p ≡ false → has (if a0 then o0 else if a1 then o1 else o2) p ≡ false
pick2 true a1 o0 o1 o2 p h0 h1 h2 = h0
pick2 false a1 o0 o1 o2 p h0 h1 h2 = pick1 a1 o1 o2 p h1 h2

pick3 : (a0 a1 a2 : Bool) (o0 o1 o2 o3 : Outlets) (p : Port) → has o0 p ≡ false → has o1 p ≡ false → has o2 p ≡ false → has o3 p ≡ false → has (if a0 then o0 else if a1 then o1 else if a2 then o2 else o3) p ≡ false
pick3 true a1 a2 o0 o1 o2 o3 p h0 h1 h2 h3 = h0
pick3 false a1 a2 o0 o1 o2 o3 p h0 h1 h2 h3 = pick2 a1 a2 o1 o2 o3 p h1 h2 h3

pick4 : (a0 a1 a2 a3 : Bool) (o0 o1 o2 o3 o4 : Outlets) (p : Port) → has o0 p ≡ false → has o1 p ≡ false → has o2 p ≡ false → has o3 p ≡ false → has o4 p ≡ false → has (if a0 then o0 else if a1 then o1 else if a2 then o2 else if a3 then o3 else o4) p ≡ false
pick4 true a1 a2 a3 o0 o1 o2 o3 o4 p h0 h1 h2 h3 h4 = h0
pick4 false a1 a2 a3 o0 o1 o2 o3 o4 p h0 h1 h2 h3 h4 = pick3 a1 a2 a3 o1 o2 o3 o4 p h1 h2 h3 h4

pick5 : (a0 a1 a2 a3 a4 : Bool) (o0 o1 o2 o3 o4 o5 : Outlets) (p : Port) → has o0 p ≡ false → has o1 p ≡ false → has o2 p ≡ false → has o3 p ≡ false → has o4 p ≡ false → has o5 p ≡ false → has (if a0 then o0 else if a1 then o1 else if a2 then o2 else if a3 then o3 else if a4 then o4 else o5) p ≡ false
pick5 true a1 a2 a3 a4 o0 o1 o2 o3 o4 o5 p h0 h1 h2 h3 h4 h5 = h0
pick5 false a1 a2 a3 a4 o0 o1 o2 o3 o4 o5 p h0 h1 h2 h3 h4 h5 = pick4 a1 a2 a3 a4 o1 o2 o3 o4 o5 p h1 h2 h3 h4 h5

pick6 : (a0 a1 a2 a3 a4 a5 : Bool) (o0 o1 o2 o3 o4 o5 o6 : Outlets) (p : Port) → has o0 p ≡ false → has o1 p ≡ false → has o2 p ≡ false → has o3 p ≡ false → has o4 p ≡ false → has o5 p ≡ false → has o6 p ≡ false → has (if a0 then o0 else if a1 then o1 else if a2 then o2 else if a3 then o3 else if a4 then o4 else if a5 then o5 else o6) p ≡ false
pick6 true a1 a2 a3 a4 a5 o0 o1 o2 o3 o4 o5 o6 p h0 h1 h2 h3 h4 h5 h6 = h0
pick6 false a1 a2 a3 a4 a5 o0 o1 o2 o3 o4 o5 o6 p h0 h1 h2 h3 h4 h5 h6 = pick5 a1 a2 a3 a4 a5 o1 o2 o3 o4 o5 o6 p h1 h2 h3 h4 h5 h6

pub danh_no : (r : RoleImage) (h : Header) (inlet : Port) → has (to []) inlet ≡ false → has (to (ring inlet)) inlet ≡ false → has (to (H ∷ [])) inlet ≡ false → has (to (H ∷ ring inlet)) inlet ≡ false → has (danh_from_ring r h inlet) inlet ≡ false
danh_no r h inlet none around host both =
    pick4 (is_from_role r h) h.supervision (is_own r h) (to_group h)
    (to []) (to (ring inlet)) (to (H ∷ [])) (to (H ∷ ring inlet)) (to (ring inlet)) inlet none around host both around

san_ring_no : (r : RoleImage) (h : Header) (inlet : Port) (now : ℕ) → has (to []) inlet ≡ false → has (to (ring inlet)) inlet ≡ false → has (to (H ∷ [])) inlet ≡ false → has (to (H ∷ ring inlet ++ C ∷ [])) inlet ≡ false → has (to (C ∷ [])) inlet ≡ false → has (to (ring inlet ++ C ∷ [])) inlet ≡ false → has (san_from_ring r h inlet now) inlet ≡ false
san_ring_no r h inlet now none around host all link on =
    pick6 (is_from_role r h || is_proxied r h.src now) h.supervision (is_own r h) (to_group h) (is_proxied r h.dst now) h.dst_known
    (to []) (to (ring inlet)) (to (H ∷ [])) (to (H ∷ ring inlet ++ C ∷ [])) (to (C ∷ [])) (to (ring inlet)) (to (ring inlet ++ C ∷ [])) inlet
    none around host all link around on

pub san_no : (r : RoleImage) (h : Header) (inlet : Port) (now : ℕ) → has (routes_of San r h inlet now) inlet ≡ false
san_no r h H now =
    pick4 h.supervision (to_group h) (is_proxied r h.dst now) h.dst_known
    (to (A ∷ B ∷ [])) (to (A ∷ B ∷ C ∷ [])) (to (C ∷ [])) (to (A ∷ B ∷ [])) (to (A ∷ B ∷ C ∷ [])) H refl refl refl refl refl
san_no r h A now = san_ring_no r h A now refl refl refl refl refl refl
san_no r h B now = san_ring_no r h B now refl refl refl refl refl refl
san_no r h C now =
    pick4 h.supervision (is_own r h) (to_group h) (is_proxied r h.dst now)
    (to []) (to (H ∷ [])) (to (H ∷ A ∷ B ∷ [])) (to []) (to (A ∷ B ∷ [])) C refl refl refl refl refl

box_ring_no : (r : RoleImage) (h : Header) (inlet : Port) (link : List Port) → has (to []) inlet ≡ false → has (to (H ∷ [])) inlet ≡ false → has (to (ring inlet ++ link)) inlet ≡ false → has (to (H ∷ ring inlet ++ link)) inlet ≡ false → has (box_from_ring r h inlet link) inlet ≡ false
box_ring_no r h inlet link none host on all =
    pick4 (is_from_role r h) (is_own r h) h.supervision (to_group h)
    (to []) (to (H ∷ [])) (to (ring inlet ++ link)) (to (H ∷ ring inlet ++ link)) (to (ring inlet ++ link)) inlet none host on all on

box_interlink_no : (r : RoleImage) (h : Header) → has (box_from_interlink r h) C ≡ false
box_interlink_no r h =
    pick4 (is_from_role r h) (is_own r h) h.supervision (to_group h)
    (to []) (to (H ∷ [])) (to (A ∷ B ∷ [])) (to (H ∷ A ∷ B ∷ [])) (to (A ∷ B ∷ [])) C refl refl refl refl refl

pub box_linked_no : (r : RoleImage) (h : Header) (inlet : Port) → has (box_routes r h inlet (C ∷ [])) inlet ≡ false
box_linked_no r h H = refl
box_linked_no r h A = box_ring_no r h A (C ∷ []) refl refl refl refl
box_linked_no r h B = box_ring_no r h B (C ∷ []) refl refl refl refl
box_linked_no r h C = box_interlink_no r h

box_apart_no : (r : RoleImage) (h : Header) (inlet : Port) → has (box_routes r h inlet []) inlet ≡ false
box_apart_no r h H = refl
box_apart_no r h A = box_ring_no r h A [] refl refl refl refl
box_apart_no r h B = box_ring_no r h B [] refl refl refl refl
box_apart_no r h C = box_interlink_no r h

pub box_no : (b : Bool) (r : RoleImage) (h : Header) (inlet : Port) → has (box_routes r h inlet (if b then [] else C ∷ [])) inlet ≡ false
box_no true r h inlet = box_apart_no r h inlet
box_no false r h inlet = box_linked_no r h inlet

-- of the lines of a RedBox for nodes that know no redundancy, the first alone sends a ring frame nowhere
all_but_first : (owns says own group link known : Bool) (inlet : Port) → is_nowhere (to (ring inlet)) ≡ false → is_nowhere (to (H ∷ ring inlet ++ C ∷ [])) ≡ false → is_nowhere (to (ring inlet ++ C ∷ [])) ≡ false
    → is_nowhere (if owns then to [] else if says then to (ring inlet) else if own then to (H ∷ []) else if group then to (H ∷ ring inlet ++ C ∷ []) else if link then to (C ∷ []) else if known then to (ring inlet) else to (ring inlet ++ C ∷ [])) ≡ owns
all_but_first true says own group link known inlet around all on = refl
all_but_first false true own group link known inlet around all on = around
all_but_first false false true group link known inlet around all on = refl
all_but_first false false false true link known inlet around all on = all
all_but_first false false false false true known inlet around all on = refl
all_but_first false false false false false true inlet around all on = around
all_but_first false false false false false false inlet around all on = on

san_at : (r : RoleImage) (h : Header) (inlet : Port) (now : ℕ) → is_nowhere (to (ring inlet)) ≡ false → is_nowhere (to (H ∷ ring inlet ++ C ∷ [])) ≡ false → is_nowhere (to (ring inlet ++ C ∷ [])) ≡ false
    → is_nowhere (san_from_ring r h inlet now) ≡ owned r h.src now
san_at r h inlet now around all on =
    all_but_first (is_from_role r h || is_proxied r h.src now) h.supervision (is_own r h) (to_group h) (is_proxied r h.dst now) h.dst_known inlet around all on

pub san_drops_only_own_sources : DropsOnlyOwnSources San
san_drops_only_own_sources r h now = (san_at r h A now refl refl refl, san_at r h B now refl refl refl)
