-- Where the frames of a plant's nodes are wanted.
use Rattle.std.proofs.Common.{◌≡◌, inl, inr, ℕ, Bool, true, false, ◌||◌, ◌==◌, not, nat_lt, if◌then◌else◌, [], ◌∷◌, List, refl, sym, ap, ◌∙◌}
use Rattle.std.specs.Prelude.{◌/◌}
use Rattle.std.proofs.lemmas.Bool.{cases_Bool, true≢false}
use Rattle.sr_frame.specs.Addresses.{mac_eq}
use Rattle.sr_frame.specs.declared.ports.Port.{Port}
use Rattle.sr_frame.specs.declared.ports.Port.TheVariants.{H, A, B, C}
use Rattle.sr_prp_trailer.specs.declared.trailer.Lan.{Lan}
use Rattle.sr_prp_trailer.specs.declared.trailer.Lan.TheVariants as lan
use Rattle.sr_forwarding.specs.declared.header.Header.{Header}
use Rattle.sr_forwarding.specs.declared.role_image.RoleImage.{RoleImage}
use Rattle.sr_forwarding.specs.declared.kind.RoleKind.{RoleKind}
use Rattle.sr_forwarding.specs.declared.kind.RoleKind.TheVariants.{Danp, Danh, Prp, Hsr}
use Rattle.sr_forwarding.specs.Outlets.{has, to}
use Rattle.sr_forwarding.specs.RoleImages.{is_group}
use Rattle.sr_forwarding.specs.Routes.{routes}
use Rattle.sr_laws_plant.specs.Frames.{Frame}
use Rattle.sr_laws_plant.specs.OneNode.{Routes}
use Rattle.sr_laws_plant.specs.Ports.{is_at, is_side}
use Rattle.sr_laws_plant.specs.Rings as rings
use Rattle.sr_laws_plant.specs.RingLans.{ring_lan_routes, is_in_ring, lan_box_routes}
use Rattle.sr_laws_plant.specs.TwinLans as lans
use Rattle.sr_laws_plant.specs.TwoRings.{is_joined, two_rings_routes}
use Rattle.sr_laws_box.specs.Members.{IsShown}
use Rattle.sr_laws_box.proofs.MemberLemmas.{danhs, danps, prp_boxes, hsr_boxes}
use Rattle.sr_plant.specs.declared.topology.Topology.{Topology}
use Rattle.sr_plant.specs.declared.topology.Topology.TheVariants.{Ring, TwinLan, RingLan, TwoRings}
use Rattle.sr_forwarding.specs.Kinds.{carriage}
use Rattle.sr_forwarding.specs.NetIds.{number_of}
use Rattle.sr_plant.specs.Topologies.{kind_of, lan_shape, two_shape, joins_of, IsJoinedAs}
use Rattle.sr_laws_plant_runs.specs.Histories.{is_outlet}
use Rattle.sr_laws_plant_runs.proofs.WireLemmas.{IsTrail, IsNetworked}

-- what a node itself sends goes out at each outlet
pub host_routes : (role : RoleImage) (h : Header) (now : ℕ) → IsNetworked role.kind → (o : Port) → has (routes role h H now) o ≡ is_outlet o role.kind
host_routes role h now net o = by role.kind refl net o
  where
    by : (kind : RoleKind) → role.kind ≡ kind → IsNetworked kind → (o : Port) → has (routes role h H now) o ≡ is_outlet o role.kind
    by Danp e net H = rw e refl
    by Danp e net A = rw e refl
    by Danp e net B = rw e refl
    by Danp e net C = rw e refl
    by Danh e net H = rw e refl
    by Danh e net A = rw e refl
    by Danh e net B = rw e refl
    by Danh e net C = rw e refl
    by (Prp l n) e net H = rw e refl
    by (Prp l n) e net A = rw e refl
    by (Prp l n) e net B = rw e refl
    by (Prp l n) e net C = rw e refl
    by Hsr e net H = rw e refl
    by Hsr e net A = rw e refl
    by Hsr e net B = rw e refl
    by Hsr e net C = rw e refl
    by kind e net o = absurd net

-- nothing goes from a LAN into a LAN
pub no_lan_to_lan : (kind : RoleKind) (role : RoleImage) (h : Header) (port o : Port) (now : ℕ) → IsNetworked kind → role.kind ≡ kind → has (routes role h port now) o ≡ true → IsTrail (carriage kind port) → IsTrail (carriage kind o) → ⊥
no_lan_to_lan Danp role h port o now net is wants from into = by port o wants from into
  where
    nothing : (s own all : Bool) (o : Port) → IsTrail (carriage Danp o) → has (if s then to [] else if own || all then to (H ∷ []) else to []) o ≡ true → ⊥
    nothing s own all H into e = let same = into.2 in absurd cc
    nothing s own all C into e = let same = into.2 in absurd cc
    nothing true own all A into e = true≢false (sym e)
    nothing false true all A into e = true≢false (sym e)
    nothing false false true A into e = true≢false (sym e)
    nothing false false false A into e = true≢false (sym e)
    nothing true own all B into e = true≢false (sym e)
    nothing false true all B into e = true≢false (sym e)
    nothing false false true B into e = true≢false (sym e)
    nothing false false false B into e = true≢false (sym e)

    by : (port o : Port) → has (routes role h port now) o ≡ true → IsTrail (carriage Danp port) → IsTrail (carriage Danp o) → ⊥
    by H o wants from into = let same = from.2 in absurd cc
    by C o wants from into = let same = from.2 in absurd cc
    by A o wants from into = nothing h.supervision (mac_eq h.dst role.mac) (is_group h.dst) o into (rw is at wants)
    by B o wants from into = nothing h.supervision (mac_eq h.dst role.mac) (is_group h.dst) o into (rw is at wants)
no_lan_to_lan Danh role h H o now net is wants from into = let same = from.2 in absurd cc
no_lan_to_lan Danh role h A o now net is wants from into = let same = from.2 in absurd cc
no_lan_to_lan Danh role h B o now net is wants from into = let same = from.2 in absurd cc
no_lan_to_lan Danh role h C o now net is wants from into = let same = from.2 in absurd cc
no_lan_to_lan Hsr role h H o now net is wants from into = let same = from.2 in absurd cc
no_lan_to_lan Hsr role h A o now net is wants from into = let same = from.2 in absurd cc
no_lan_to_lan Hsr role h B o now net is wants from into = let same = from.2 in absurd cc
no_lan_to_lan Hsr role h C o now net is wants from into = let same = from.2 in absurd cc
no_lan_to_lan (Prp l n) role h H o now net is wants from into = let same = from.2 in absurd cc
no_lan_to_lan (Prp l n) role h A o now net is wants from into = let same = from.2 in absurd cc
no_lan_to_lan (Prp l n) role h B o now net is wants from into = let same = from.2 in absurd cc
no_lan_to_lan (Prp l n) role h C H now net is wants from into = let same = into.2 in absurd cc
no_lan_to_lan (Prp l n) role h C A now net is wants from into = let same = into.2 in absurd cc
no_lan_to_lan (Prp l n) role h C B now net is wants from into = let same = into.2 in absurd cc
no_lan_to_lan (Prp l n) role h C C now net is wants from into =
    nothing (mac_eq h.src role.mac) (mac_eq h.dst role.mac) h.supervision (is_group h.dst) (rw is at wants)
  where
    nothing : (from own s all : Bool) → has (if from then to [] else if own then to (H ∷ []) else if s then to (A ∷ B ∷ []) else if all then to (H ∷ A ∷ B ∷ []) else to (A ∷ B ∷ [])) C ≡ true → ⊥
    nothing true own s all e = true≢false (sym e)
    nothing false true s all e = true≢false (sym e)
    nothing false false true all e = true≢false (sym e)
    nothing false false false true e = true≢false (sym e)
    nothing false false false false e = true≢false (sym e)
no_lan_to_lan kind role h port o now net is wants from into = absurd net

-- what goes up is no supervision, and for the node
abbrev pub IsUp : RoleImage → Header → Type 0
IsUp role h = (h.supervision ≡ false) × ((mac_eq h.dst role.mac || is_group h.dst) ≡ true)

-- At a RedBox supervision is for a group, so not for it alone; at other nodes nothing is asked.
abbrev pub IsToGroup : RoleKind → RoleImage → Header → Type 0
IsToGroup (Prp l n) role h = h.supervision ≡ true → mac_eq h.dst role.mac ≡ false
IsToGroup Hsr role h = h.supervision ≡ true → mac_eq h.dst role.mac ≡ false
IsToGroup kind role h = Unit {0}

up_or : (a b : Bool) → a ≡ true → (a || b) ≡ true
up_or a b e = ap (λ x. x || b) e

up_too : (a b : Bool) → b ≡ true → (a || b) ≡ true
up_too true b e = refl
up_too false b e = e

module _ (role : RoleImage) (h : Header) where
  lan_up : (s own all : Bool) → h.supervision ≡ s → mac_eq h.dst role.mac ≡ own → is_group h.dst ≡ all →
      has (if s then to [] else if own || all then to (H ∷ []) else to []) H ≡ true → IsUp role h
  lan_up true own all a b c e = absurd (true≢false (sym e))
  lan_up false true all a b c e = (a, up_or (mac_eq h.dst role.mac) (is_group h.dst) b)
  lan_up false false true a b c e = (a, up_too (mac_eq h.dst role.mac) (is_group h.dst) c)
  lan_up false false false a b c e = absurd (true≢false (sym e))

  ring_up : (on : List Port) → has (to on) H ≡ false → (s own all : Bool) → h.supervision ≡ s → mac_eq h.dst role.mac ≡ own → is_group h.dst ≡ all →
      has (if s then to on else if own then to (H ∷ []) else if all then to (H ∷ on) else to on) H ≡ true → IsUp role h
  ring_up on none true own all a b c e = absurd (true≢false (sym e ∙ none))
  ring_up on none false true all a b c e = (a, up_or (mac_eq h.dst role.mac) (is_group h.dst) b)
  ring_up on none false false true a b c e = (a, up_too (mac_eq h.dst role.mac) (is_group h.dst) c)
  ring_up on none false false false a b c e = absurd (true≢false (sym e ∙ none))

  box_up : (on : List Port) → has (to on) H ≡ false → (h.supervision ≡ true → mac_eq h.dst role.mac ≡ false) → (s own all : Bool) → h.supervision ≡ s → mac_eq h.dst role.mac ≡ own → is_group h.dst ≡ all →
      has (if own then to (H ∷ []) else if s then to on else if all then to (H ∷ on) else to on) H ≡ true → IsUp role h
  box_up on none group true true all a b c e = absurd (true≢false (sym b ∙ group a))
  box_up on none group false true all a b c e = (a, up_or (mac_eq h.dst role.mac) (is_group h.dst) b)
  box_up on none group true false all a b c e = absurd (true≢false (sym e ∙ none))
  box_up on none group false false true a b c e = (a, up_too (mac_eq h.dst role.mac) (is_group h.dst) c)
  box_up on none group false false false a b c e = absurd (true≢false (sym e ∙ none))

pub to_group : (kind : RoleKind) (role : RoleImage) (h : Header) → (h.supervision ≡ true → mac_eq h.dst role.mac ≡ false) → IsToGroup kind role h
to_group (Prp l n) role h group = group
to_group Hsr role h group = group
to_group kind role h group = tt

links : (b : Bool) → has (to (B ∷ (if b then [] else C ∷ []))) H ≡ false
links true = refl
links false = refl

links_too : (b : Bool) → has (to (A ∷ (if b then [] else C ∷ []))) H ≡ false
links_too true = refl
links_too false = refl

pub wants_up : (role : RoleImage) (h : Header) (port : Port) (now : ℕ) (kind : RoleKind) → role.kind ≡ kind → IsNetworked kind → is_at H port ≡ false → mac_eq h.src role.mac ≡ false → IsToGroup kind role h → has (routes role h port now) H ≡ true → IsUp role h
wants_up role h H now kind is net outside other group wants = absurd (true≢false outside)
wants_up role h A now Danp is net outside other group wants = lan_up role h h.supervision (mac_eq h.dst role.mac) (is_group h.dst) refl refl refl (rw is at wants)
wants_up role h B now Danp is net outside other group wants = lan_up role h h.supervision (mac_eq h.dst role.mac) (is_group h.dst) refl refl refl (rw is at wants)
wants_up role h C now Danp is net outside other group wants = let none : false ≡ true = rw is at wants in absurd (true≢false (sym none))
wants_up role h A now Danh is net outside other group wants = ring_up role h (B ∷ []) refl h.supervision (mac_eq h.dst role.mac) (is_group h.dst) refl refl refl (rw (is, other) at wants)
wants_up role h B now Danh is net outside other group wants = ring_up role h (A ∷ []) refl h.supervision (mac_eq h.dst role.mac) (is_group h.dst) refl refl refl (rw (is, other) at wants)
wants_up role h C now Danh is net outside other group wants = let none : false ≡ true = rw is at wants in absurd (true≢false (sym none))
wants_up role h A now (Prp l n) is net outside other group wants = box_up role h (B ∷ (if h.path / 2 == number_of n then [] else C ∷ [])) (links (h.path / 2 == number_of n)) group h.supervision (mac_eq h.dst role.mac) (is_group h.dst) refl refl refl (rw (is, other) at wants)
wants_up role h B now (Prp l n) is net outside other group wants = box_up role h (A ∷ (if h.path / 2 == number_of n then [] else C ∷ [])) (links_too (h.path / 2 == number_of n)) group h.supervision (mac_eq h.dst role.mac) (is_group h.dst) refl refl refl (rw (is, other) at wants)
wants_up role h C now (Prp l n) is net outside other group wants = box_up role h (A ∷ B ∷ []) refl group h.supervision (mac_eq h.dst role.mac) (is_group h.dst) refl refl refl (rw (is, other) at wants)
wants_up role h A now Hsr is net outside other group wants = box_up role h (B ∷ C ∷ []) refl group h.supervision (mac_eq h.dst role.mac) (is_group h.dst) refl refl refl (rw (is, other) at wants)
wants_up role h B now Hsr is net outside other group wants = box_up role h (A ∷ C ∷ []) refl group h.supervision (mac_eq h.dst role.mac) (is_group h.dst) refl refl refl (rw (is, other) at wants)
wants_up role h C now Hsr is net outside other group wants = box_up role h (A ∷ B ∷ []) refl group h.supervision (mac_eq h.dst role.mac) (is_group h.dst) refl refl refl (rw (is, other) at wants)
wants_up role h port now kind is net outside other group wants = absurd net

-- the laws' tables of routes
abbrev pub law_routes : Topology → Routes
law_routes Ring = rings.danh_routes
law_routes TwinLan = lans.danp_routes
law_routes (RingLan s) = ring_lan_routes (lan_shape s)
law_routes (TwoRings s) = two_rings_routes (two_shape s)

-- a node puts out what it numbers at each of its outlets
pub host_agrees : (t : Topology) (k : ℕ) (f : Frame) (o : Port) → is_outlet o (kind_of t k) ≡ law_routes t k f H o
host_agrees Ring k f H = refl
host_agrees Ring k f A = refl
host_agrees Ring k f B = refl
host_agrees Ring k f C = refl
host_agrees TwinLan k f H = refl
host_agrees TwinLan k f A = refl
host_agrees TwinLan k f B = refl
host_agrees TwinLan k f C = refl
host_agrees (RingLan s) k f o = elim (cases_Bool (nat_lt k s.ring)) [
  | inr away ↦ rw away (at_lan o)
  | inl inside ↦ rw inside (elim (cases_Bool (k == s.box_a)) [
    | inl a ↦ rw a (at_box lan.A o)
    | inr not_a ↦ rw not_a (elim (cases_Bool (k == s.box_b)) [
      | inl b ↦ rw b (at_box lan.B o)
      | inr not_b ↦ rw not_b (at_ring o)
    ])
  ])
]
  where
    at_lan : (o : Port) → is_outlet o Danp ≡ is_side o
    at_lan H = refl
    at_lan A = refl
    at_lan B = refl
    at_lan C = refl

    at_ring : (o : Port) → is_outlet o Danh ≡ is_side o
    at_ring H = refl
    at_ring A = refl
    at_ring B = refl
    at_ring C = refl

    at_box : (l : Lan) (o : Port) → is_outlet o (Prp l s.net) ≡ lan_box_routes (lan_shape s) k f H o
    at_box l H = refl
    at_box l A = refl
    at_box l B = refl
    at_box l C = refl
host_agrees (TwoRings s) k f o = elim (cases_Bool (is_joined (joins_of s) k)) [
  | inl box ↦ rw box (at_box o)
  | inr other ↦ rw other (at_ring o)
]
  where
    at_ring : (o : Port) → is_outlet o Danh ≡ is_side o
    at_ring H = refl
    at_ring A = refl
    at_ring B = refl
    at_ring C = refl

    at_box : (o : Port) → is_outlet o Hsr ≡ not (is_at H o)
    at_box H = refl
    at_box A = refl
    at_box B = refl
    at_box C = refl

-- At a node of the ring a path names the network of the LANs exactly where one of their nodes numbered the frame.
abbrev pub IsPathFor : Topology → ℕ → ℕ → Frame → Type 0
IsPathFor Ring k path f = Unit {0}
IsPathFor TwinLan k path f = Unit {0}
IsPathFor (RingLan s) k path f = nat_lt k s.ring ≡ true → (path / 2 == number_of s.net) ≡ not (is_in_ring (lan_shape s) f.src)
IsPathFor (TwoRings s) k path f = Unit {0}

-- what comes in is wanted where the law says
pub wants_by_law : (t : Topology) (n : ℕ) → IsJoinedAs t n → (k : ℕ) (role : RoleImage) (h : Header) (f : Frame) (port : Port) (now : ℕ) → role.kind ≡ kind_of t k → IsShown port k role h f → IsPathFor t k h.path f → (o : Port) → has (routes role h port now) o ≡ law_routes t k f port o
wants_by_law Ring n joined k role h f port now kind shown path o = danhs k role h f port kind shown o now
wants_by_law TwinLan n joined k role h f port now kind shown path o = danps k role h f port kind shown o now
wants_by_law (TwoRings s) n joined k role h f port now kind shown path o = elim (cases_Bool (is_joined (joins_of s) k)) [
  | inl box ↦ (let is : role.kind ≡ Hsr = rw box at kind in rw box (hsr_boxes k role h f port is shown o now))
  | inr other ↦ (let is : role.kind ≡ Danh = rw other at kind in rw other (danhs k role h f port is shown o now))
]
wants_by_law (RingLan s) n joined k role h f port now kind shown path o = elim (cases_Bool (nat_lt k s.ring)) [
  | inr away ↦ (let is : role.kind ≡ Danp = rw away at kind in rw away (danps k role h f port is shown o now))
  | inl inside ↦ elim (cases_Bool (k == s.box_a)) [
    | inl a ↦ (let is : role.kind ≡ Prp lan.A s.net = rw (inside, a) at kind in rw (inside, a) (prp_boxes (lan_shape s) s.net k lan.A role h f port is shown (λ side. path inside) o now))
    | inr not_a ↦ elim (cases_Bool (k == s.box_b)) [
      | inl b ↦ (let is : role.kind ≡ Prp lan.B s.net = rw (inside, not_a, b) at kind in rw (inside, not_a, b) (prp_boxes (lan_shape s) s.net k lan.B role h f port is shown (λ side. path inside) o now))
      | inr not_b ↦ (let is : role.kind ≡ Danh = rw (inside, not_a, not_b) at kind in rw (inside, not_a, not_b) (danhs k role h f port is shown o now))
    ]
  ]
]
