-- Between which ports the hops of a plant lead, and how frames are carried there.
use Rattle.std.proofs.Common.{◌≡◌, ◌⊎◌, inl, inr, ℕ, zero, suc, ◌+◌, ◌-◌, ◌*◌, ◌<◌, ◌==◌, ◌||◌, nat_lt, Bool, true, false, List, [], ◌∷◌, refl, sym, ◌∙◌, subst, arith, if◌then◌else◌}
use Rattle.std.proofs.lemmas.Bool.{cases_Bool, eqb-true, eq-eqb, lt-ltb, le-ltb, or_right, true≢false}
use Rattle.sr_frame.specs.declared.ports.Port.{Port}
use Rattle.sr_frame.specs.declared.ports.Port.TheVariants.{H, A, B, C}
use Rattle.sr_prp_trailer.specs.declared.trailer.Lan.{Lan}
use Rattle.sr_prp_trailer.specs.declared.trailer.Lan.TheVariants as lan
use Rattle.sr_forwarding.specs.declared.kind.RoleKind.{RoleKind}
use Rattle.sr_forwarding.specs.declared.kind.RoleKind.TheVariants.{Danp, Danh, Prp, Hsr}
use Rattle.sr_forwarding.specs.Framings.{FramingImage, Tagged, Trailed}
use Rattle.sr_forwarding.specs.Kinds.{carriage}
use Rattle.sr_forwarding.specs.NetIds.{number_of}
use Rattle.sr_laws_plant.specs.Lists.{Each}
use Rattle.sr_laws_plant.specs.ListLemmas.{each_map, each_append}
use Rattle.sr_laws_plant.specs.Ledger.{Hop}
use Rattle.sr_laws_plant.specs.Ports.{is_at}
use Rattle.sr_laws_plant.specs.RingParts.{onward, backward}
use Rattle.sr_laws_plant.specs.Rings.{beyond}
use Rattle.sr_laws_plant.specs.RingLans.{others, lan_copies}
use Rattle.sr_laws_plant.specs.TwinLans.{lan_hops, other_members}
use Rattle.sr_laws_plant.specs.TwoRings.{is_joined, over_hops}
use Rattle.sr_laws_plant.specs.Ways.{interlink_of}
use Rattle.sr_laws_plant.proofs.RingLemmas.{ring_round}
use Rattle.sr_plant.specs.declared.topology.Topology.{Topology}
use Rattle.sr_plant.specs.declared.topology.Topology.TheVariants.{Ring, TwinLan, RingLan, TwoRings}
use Rattle.sr_plant.specs.declared.shapes.RingLanShape.{RingLanShape}
use Rattle.sr_plant.specs.declared.shapes.TwoRingsShape.{TwoRingsShape}
use Rattle.sr_plant.specs.Topologies.{framing_of, kind_of, joins_of, net_of, IsJoinedAs, IsRingLan}
use Rattle.sr_laws_plant_runs.specs.Histories.{is_outlet}

-- with a tag, of which the path is that of a side; with a trailer
abbrev pub IsTag : FramingImage → Type 0
IsTag f = (path : ℕ) × (f ≡ Tagged path) × (path < 2)

abbrev pub IsTrail : FramingImage → Type 0
IsTrail f = (l : Lan) × (net : ℕ) × (f ≡ Trailed l net)

-- where a frame goes with a tag, its node is of the ring
abbrev pub IsFromRing : Topology → ℕ → Type 0
IsFromRing Ring k = Unit {0}
IsFromRing TwinLan k = Unit {0}
IsFromRing (RingLan s) k = nat_lt k s.ring ≡ true
IsFromRing (TwoRings s) k = Unit {0}

-- where it goes with a trailer into the ring, its node is of the LANs, and the port is that of their network
abbrev pub IsFromLan : Topology → ℕ → Hop → Type 0
IsFromLan Ring k h = Unit {0}
IsFromLan TwinLan k h = Unit {0}
IsFromLan (RingLan s) k h =
    nat_lt h.to.node s.ring ≡ true →
    (nat_lt k s.ring ≡ false) × ((l : Lan) × (framing_of (RingLan s) h.to.node h.to.port ≡ Trailed l (number_of s.net)))
IsFromLan (TwoRings s) k h = Unit {0}

-- both ends carry frames alike
pub record IsWire (t : Topology) (k : ℕ) (o : Port) (h : Hop) : Type 0 where
  pub out : is_outlet o (kind_of t k) ≡ true
  pub port : is_outlet h.to.port (kind_of t h.to.node) ≡ true
  pub alike : (IsTag (framing_of t k o) × IsTag (framing_of t h.to.node h.to.port) × IsFromRing t k)
      ⊎ (IsTrail (framing_of t k o) × IsTrail (framing_of t h.to.node h.to.port) × IsFromLan t k h)

-- the host is no outlet
pub not_host : (port : Port) (kind : RoleKind) → is_outlet port kind ≡ true → is_at H port ≡ false
not_host H kind e = absurd (true≢false (sym e))
not_host A kind e = refl
not_host B kind e = refl
not_host C kind e = refl

-- the kinds of nodes of a plant
abbrev pub IsNetworked : RoleKind → Type 0
IsNetworked Danp = Unit {0}
IsNetworked Danh = Unit {0}
IsNetworked (Prp l net) = Unit {0}
IsNetworked Hsr = Unit {0}
IsNetworked kind = ⊥

pub networked : (t : Topology) (k : ℕ) → IsNetworked (kind_of t k)
networked Ring k = tt
networked TwinLan k = tt
networked (RingLan s) k = by (nat_lt k s.ring) (k == s.box_a) (k == s.box_b)
  where
    by : (inside a b : Bool) → IsNetworked (if inside then (if a then Prp lan.A s.net else if b then Prp lan.B s.net else Danh) else Danp)
    by true true b = tt
    by true false true = tt
    by true false false = tt
    by false a b = tt
networked (TwoRings s) k = by (is_joined (joins_of s) k)
  where
    by : (b : Bool) → IsNetworked (if b then Hsr else Danh)
    by true = tt
    by false = tt

-- a tag or a trailer, at each port of such a node
pub carried : (kind : RoleKind) (port : Port) → IsNetworked kind → is_outlet port kind ≡ true → IsTag (carriage kind port) ⊎ IsTrail (carriage kind port)
carried kind H net e = absurd (true≢false (sym e))
carried Danp A net e = inr (lan.A, 0, refl)
carried Danp B net e = inr (lan.B, 0, refl)
carried Danp C net e = absurd (true≢false (sym e))
carried Danh A net e = inl (0, refl, omega arith)
carried Danh B net e = inl (1, refl, omega arith)
carried Danh C net e = absurd (true≢false (sym e))
carried (Prp l n) A net e = inl (0, refl, omega arith)
carried (Prp l n) B net e = inl (1, refl, omega arith)
carried (Prp l n) C net e = inr (l, number_of n, refl)
carried Hsr A net e = inl (0, refl, omega arith)
carried Hsr B net e = inl (1, refl, omega arith)
carried Hsr C net e = inl (0, refl, omega arith)
carried kind port net e = absurd net

-- the ports of a ring's node
sided : (kind : RoleKind) → (is_outlet A kind ≡ true) × (is_outlet B kind ≡ true)
sided kind = (refl, refl)

tag_a : (s : RingLanShape) (k : ℕ) → nat_lt k s.ring ≡ true → IsTag (framing_of (RingLan s) k A)
tag_a s k inside = rw inside (by (k == s.box_a) (k == s.box_b))
  where
    by : (a b : Bool) → IsTag (carriage (if a then Prp lan.A s.net else if b then Prp lan.B s.net else Danh) A)
    by true b = (0, refl, omega arith)
    by false true = (0, refl, omega arith)
    by false false = (0, refl, omega arith)

tag_b : (s : RingLanShape) (k : ℕ) → nat_lt k s.ring ≡ true → IsTag (framing_of (RingLan s) k B)
tag_b s k inside = rw inside (by (k == s.box_a) (k == s.box_b))
  where
    by : (a b : Bool) → IsTag (carriage (if a then Prp lan.A s.net else if b then Prp lan.B s.net else Danh) B)
    by true b = (1, refl, omega arith)
    by false true = (1, refl, omega arith)
    by false false = (1, refl, omega arith)

-- a box, by its interlink
record IsBoxOf (s : RingLanShape) (k : ℕ) : Type 0 where
  lan_is : Lan
  framing : framing_of (RingLan s) k C ≡ Trailed lan_is (number_of s.net)
  outlet : is_outlet C (kind_of (RingLan s) k) ≡ true

box_at : (s : RingLanShape) (k : ℕ) → nat_lt k s.ring ≡ true → ((k == s.box_a) || (k == s.box_b)) ≡ true → IsBoxOf s k
box_at s k inside box = by (k == s.box_a) (k == s.box_b) refl refl box
  where
    by : (a b : Bool) → (k == s.box_a) ≡ a → (k == s.box_b) ≡ b → (a || b) ≡ true → IsBoxOf s k
    by true b e f box = record { lan_is = lan.A; framing = rw (inside, e) refl; outlet = rw (inside, e) refl }
    by false true e f box = record { lan_is = lan.B; framing = rw (inside, e, f) refl; outlet = rw (inside, e, f) refl }
    by false false e f box = absurd (true≢false (sym box))

-- hops of LANs
each_lan_hop : (P : Hop → Type 0) (p : Port) (first k : ℕ) (js : List ℕ) → ((j : ℕ) (links : List ℕ) → P (record { to = record { node = j; port = p }; links = links })) → Each P (lan_hops p first k js)
each_lan_hop P p first k [] each = tt
each_lan_hop P p first k (j ∷ js) each = (each j ((first + k) ∷ (first + j) ∷ []), each_lan_hop P p first k js each)

each_lan_copy : (P : Hop → Type 0) (Q : ℕ → Type 0) (p : Port) (own first : ℕ) (js : List ℕ) → Each Q js → ((j : ℕ) (links : List ℕ) → Q j → P (record { to = record { node = j; port = p }; links = links })) → Each P (lan_copies p own first js)
each_lan_copy P Q p own first [] all each = tt
each_lan_copy P Q p own first (j ∷ js) all each = (each j (own ∷ (first + j) ∷ []) all.0, each_lan_copy P Q p own first js all.1 each)

behind : (r d k : ℕ) → Each (λ j. nat_lt j r ≡ false) (others r d k)
behind r zero k = tt
behind r (suc d) k =
    elim (cases_Bool (r + d == k)) [
      | inl same ↦ rw same (behind r d k)
      | inr other ↦ rw other (each_append (λ j. nat_lt j r ≡ false) (others r d k) ((r + d) ∷ []) (behind r d k) (le-ltb (r + d) r (omega arith), tt))
    ]

-- in a LAN behind a ring
lan_a : (s : RingLanShape) (k j : ℕ) (o : Port) (links : List ℕ) → is_outlet o (kind_of (RingLan s) k) ≡ true → IsTrail (framing_of (RingLan s) k o) → nat_lt j s.ring ≡ false →
    IsWire (RingLan s) k o (record { to = record { node = j; port = A }; links = links })
lan_a s k j o links out trail away = record {
  out = out;
  port = refl;
  alike = inr (trail, (lan.A, 0, rw away refl), λ inside. absurd (true≢false (sym inside ∙ away)));
}

lan_b : (s : RingLanShape) (k j : ℕ) (o : Port) (links : List ℕ) → is_outlet o (kind_of (RingLan s) k) ≡ true → IsTrail (framing_of (RingLan s) k o) → nat_lt j s.ring ≡ false →
    IsWire (RingLan s) k o (record { to = record { node = j; port = B }; links = links })
lan_b s k j o links out trail away = record {
  out = out;
  port = refl;
  alike = inr (trail, (lan.B, 0, rw away refl), λ inside. absurd (true≢false (sym inside ∙ away)));
}

into_box : (s : RingLanShape) (k box : ℕ) (o : Port) (links : List ℕ) → is_outlet o (kind_of (RingLan s) k) ≡ true → IsTrail (framing_of (RingLan s) k o) → nat_lt k s.ring ≡ false → IsBoxOf s box →
    IsWire (RingLan s) k o (record { to = interlink_of box; links = links })
into_box s k box o links out trail away is = record {
  out = out;
  port = is.outlet;
  alike = inr (trail, (is.lan_is, number_of s.net, is.framing), λ inside. (away, (is.lan_is, is.framing)));
}

ring_wires : (s : RingLanShape) (n : ℕ) → IsRingLan s n → (k : ℕ) (o : Port) → Each (IsWire (RingLan s) k o) (net_of (RingLan s) n k o)
ring_wires s n is k H = tt
ring_wires s n is k A =
    elim (cases_Bool (nat_lt k s.ring)) [
      | inl inside ↦
          rw inside (record { out = refl; port = refl; alike = inl (tag_a s k inside, tag_b s (beyond s.ring backward k) ((ring_round s.ring).closed backward k inside), inside) }, tt)
      | inr away ↦ rw away (
        into_box s k s.box_a A (k ∷ (s.ring + s.lan) ∷ []) refl (lan.A, 0, rw away refl) away (box_at s s.box_a (lt-ltb s.box_a s.ring is.a_inside) (rw (eq-eqb s.box_a s.box_a refl) refl)),
        each_lan_copy (IsWire (RingLan s) k A) (λ j. nat_lt j s.ring ≡ false) A k 0 (others s.ring s.lan k) (behind s.ring s.lan k) (λ j links far. lan_a s k j A links refl (lan.A, 0, rw away refl) far),
      )
    ]
ring_wires s n is k B =
    elim (cases_Bool (nat_lt k s.ring)) [
      | inl inside ↦
          rw inside (record { out = refl; port = refl; alike = inl (tag_b s k inside, tag_a s (beyond s.ring onward k) ((ring_round s.ring).closed onward k inside), inside) }, tt)
      | inr away ↦ rw away (
        into_box s k s.box_b B ((s.lan + 1 + k) ∷ (s.ring + 2 * s.lan + 1) ∷ []) refl (lan.B, 0, rw away refl) away (box_at s s.box_b (lt-ltb s.box_b s.ring is.b_inside) (or_right (s.box_b == s.box_a) (s.box_b == s.box_b) (eq-eqb s.box_b s.box_b refl))),
        each_lan_copy (IsWire (RingLan s) k B) (λ j. nat_lt j s.ring ≡ false) B (s.lan + 1 + k) (s.lan + 1) (others s.ring s.lan k) (behind s.ring s.lan k) (λ j links far. lan_b s k j B links refl (lan.B, 0, rw away refl) far),
      )
    ]
ring_wires s n is k C =
    elim (cases_Bool (k == s.box_a)) [
      | inl a ↦
          let inside : nat_lt k s.ring ≡ true = lt-ltb k s.ring (let e = eqb-true k s.box_a a in let l = is.a_inside in omega (arith, e, l)) in
          let box = box_at s k inside (rw a refl) in
          rw a (each_lan_copy (IsWire (RingLan s) k C) (λ j. nat_lt j s.ring ≡ false) A (s.ring + s.lan) 0 (others s.ring s.lan k) (behind s.ring s.lan k) (λ j links far. lan_a s k j C links box.outlet (box.lan_is, number_of s.net, box.framing) far))
      | inr not_a ↦
          elim (cases_Bool (k == s.box_b)) [
            | inl b ↦
                let inside : nat_lt k s.ring ≡ true = lt-ltb k s.ring (let e = eqb-true k s.box_b b in let l = is.b_inside in omega (arith, e, l)) in
                let box = box_at s k inside (or_right (k == s.box_a) (k == s.box_b) b) in
                rw (not_a, b) (each_lan_copy (IsWire (RingLan s) k C) (λ j. nat_lt j s.ring ≡ false) B (s.ring + 2 * s.lan + 1) (s.lan + 1) (others s.ring s.lan k) (behind s.ring s.lan k) (λ j links far. lan_b s k j C links box.outlet (box.lan_is, number_of s.net, box.framing) far))
            | inr not_b ↦ rw (not_a, not_b) tt
          ]
    ]

-- in two rings
two_tag_a : (s : TwoRingsShape) (k : ℕ) → IsTag (framing_of (TwoRings s) k A)
two_tag_a s k = by (is_joined (joins_of s) k)
  where
    by : (b : Bool) → IsTag (carriage (if b then Hsr else Danh) A)
    by true = (0, refl, omega arith)
    by false = (0, refl, omega arith)

two_tag_b : (s : TwoRingsShape) (k : ℕ) → IsTag (framing_of (TwoRings s) k B)
two_tag_b s k = by (is_joined (joins_of s) k)
  where
    by : (b : Bool) → IsTag (carriage (if b then Hsr else Danh) B)
    by true = (1, refl, omega arith)
    by false = (1, refl, omega arith)

-- over a join, from box to box
over_each : (link : ℕ) (js : List (ℕ × ℕ)) (k : ℕ) → Each (λ h. (is_joined js k ≡ true) × (is_joined js h.to.node ≡ true) × (h.to.port ≡ C)) (over_hops link js k)
over_each link [] k = tt
over_each link (j ∷ js) k =
    elim (cases_Bool (k == j.0)) [
      | inl a ↦ rw a ((refl, rw (eq-eqb j.1 j.1 refl) (or_true (j.1 == j.0) (is_joined js j.1)), refl), tt)
      | inr not_a ↦
          elim (cases_Bool (k == j.1)) [
            | inl b ↦ rw (not_a, b) ((refl, rw (eq-eqb j.0 j.0 refl) refl, refl), tt)
            | inr not_b ↦ rw (not_a, not_b) (each_map (λ (h : Hop). (is_joined js k ≡ true) × (is_joined js h.to.node ≡ true) × (h.to.port ≡ C)) (λ (h : Hop). (is_joined js k ≡ true) × (is_joined (j ∷ js) h.to.node ≡ true) × (h.to.port ≡ C))
                (λ h x. (x.0, or_right (h.to.node == j.0 || h.to.node == j.1) (is_joined js h.to.node) x.1, x.2)) (over_hops (link + 1) js k) (over_each (link + 1) js k))
          ]
    ]
  where
    or_true : (a b : Bool) → ((a || true) || b) ≡ true
    or_true true b = refl
    or_true false b = refl

two_wires : (s : TwoRingsShape) (n k : ℕ) (o : Port) → Each (IsWire (TwoRings s) k o) (net_of (TwoRings s) n k o)
two_wires s n k H = tt
two_wires s n k A =
    elim (cases_Bool (nat_lt k s.left)) [
      | inl left ↦ rw left (record { out = refl; port = refl; alike = inl (two_tag_a s k, two_tag_b s (beyond s.left backward k), tt) }, tt)
      | inr right ↦ rw right (record { out = refl; port = refl; alike = inl (two_tag_a s k, two_tag_b s (s.left + beyond s.right backward (k - s.left)), tt) }, tt)
    ]
two_wires s n k B =
    elim (cases_Bool (nat_lt k s.left)) [
      | inl left ↦ rw left (record { out = refl; port = refl; alike = inl (two_tag_b s k, two_tag_a s (beyond s.left onward k), tt) }, tt)
      | inr right ↦ rw right (record { out = refl; port = refl; alike = inl (two_tag_b s k, two_tag_a s (s.left + beyond s.right onward (k - s.left)), tt) }, tt)
    ]
two_wires s n k C =
    each_map (λ (h : Hop). (is_joined (joins_of s) k ≡ true) × (is_joined (joins_of s) h.to.node ≡ true) × (h.to.port ≡ C)) (IsWire (TwoRings s) k C) one (over_hops (s.left + s.right) (joins_of s) k) (over_each (s.left + s.right) (joins_of s) k)
  where
    one : (h : Hop) → (is_joined (joins_of s) k ≡ true) × (is_joined (joins_of s) h.to.node ≡ true) × (h.to.port ≡ C) → IsWire (TwoRings s) k C h
    one h (here, there, at) = record {
      out = rw here refl;
      port = subst (λ p. is_outlet p (kind_of (TwoRings s) h.to.node) ≡ true) (sym at) (rw there refl);
      alike = inl ((0, rw here refl, omega arith), subst (λ p. IsTag (framing_of (TwoRings s) h.to.node p)) (sym at) (0, rw there refl, omega arith), tt);
    }

-- each hop of a plant
pub wires : (t : Topology) (n : ℕ) → IsJoinedAs t n → (k : ℕ) (o : Port) → Each (IsWire t k o) (net_of t n k o)
wires Ring n joined k H = tt
wires Ring n joined k A = (record { out = refl; port = refl; alike = inl ((0, refl, omega arith), (1, refl, omega arith), tt) }, tt)
wires Ring n joined k B = (record { out = refl; port = refl; alike = inl ((1, refl, omega arith), (0, refl, omega arith), tt) }, tt)
wires Ring n joined k C = tt
wires TwinLan n joined k H = tt
wires TwinLan n joined k A = each_lan_hop (IsWire TwinLan k A) A 0 k (other_members n k) (λ j links. record { out = refl; port = refl; alike = inr ((lan.A, 0, refl), (lan.A, 0, refl), tt) })
wires TwinLan n joined k B = each_lan_hop (IsWire TwinLan k B) B n k (other_members n k) (λ j links. record { out = refl; port = refl; alike = inr ((lan.B, 0, refl), (lan.B, 0, refl), tt) })
wires TwinLan n joined k C = tt
wires (RingLan s) n joined k o = ring_wires s n joined k o
wires (TwoRings s) n joined k o = two_wires s n k o
