-- Hops, one after the other.
use Rattle.std.proofs.Common.{◌≡◌, ℕ, zero, suc, ◌+◌, ◌-◌, ◌*◌, ◌<◌, ◌≤◌, ◌==◌, nat_lt, true, false, if◌then◌else◌, not, List, [], ◌∷◌, ◌++◌, map, Option, Some, None, refl, sym, ap, ◌∙◌, inl, inr, arith}
use Rattle.std.specs.Prelude.{IfSome, option_map}
use Rattle.std.specs.Option.{option_to_list}
use Rattle.std.proofs.lemmas.Bool.{cases_Bool}
use Rattle.std.proofs.lemmas.Bool.Decides.{nat_tests}
use Rattle.std.proofs.lemmas.List.{map-append, append-nil}
use Rattle.sr_frame.specs.declared.ports.Port.{Port}
use Rattle.sr_frame.specs.declared.ports.Port.TheVariants.{H, A, B, C}
use Rattle.sr_laws_plant.specs.Ledger.{Hop}
use Rattle.sr_laws_plant.specs.RingParts.{onward, backward}
use Rattle.sr_laws_plant.specs.Rings.{ring, beyond}
use Rattle.sr_laws_plant.specs.TwinLans.{other_members, lan_hops, twin_lans}
use Rattle.sr_laws_plant.specs.RingLans.{others, lan_copies, ring_lan}
use Rattle.sr_laws_plant.specs.TwoRings.{shifted, over_hops, AreJoins, TwoShape, two_rings}
use Rattle.sr_laws_plant.specs.Ways.{interlink_of}
use Rattle.sr_plant.specs.declared.shapes.RingLanShape.{RingLanShape}
use Rattle.sr_plant.specs.declared.shapes.TwoRingsShape.{TwoRingsShape}
use Rattle.sr_plant.specs.declared.topology.Topology.{Topology}
use Rattle.sr_plant.specs.declared.topology.Topology.TheVariants.{Ring, TwinLan, RingLan, TwoRings}
use Rattle.sr_plant.specs.Topologies.{net_of, IsJoinedAs, lan_shape, two_shape, joins_of}
use Rattle.sr_plant.specs.Puts.{hops_below, hop_to, ring_hop_to, twin_hop_to, ring_lan_hop_to, two_rings_hop_to, lan_hop_to, to_box_or_lan, over_to, beyond_left, LeadsOnlyTo, LeadsWithin}

-- no hop
none_below : (m : ℕ) → hops_below (λ j. None) m ≡ []
none_below zero = refl
none_below (suc m) = rw (none_below m) refl

-- the one hop is that to node b
one_below : (h : ℕ → Hop) (b m : ℕ) → hops_below (λ j. if j == b then Some (h j) else None) m ≡ (if nat_lt b m then h b ∷ [] else [])
one_below h b zero = let no : nat_lt b zero ≡ false = grind (arith, nat_tests) in rw no refl
one_below h b (suc m) =
    elim (cases_Bool (m == b)) [
      | inl is ↦
          let same : m ≡ b = grind (arith, nat_tests) in
          let before : nat_lt b m ≡ false = grind (arith, nat_tests) in
          let within : nat_lt b (suc m) ≡ true = grind (arith, nat_tests) in
          rw (one_below h b m, before, within, is, same) refl
      | inr not ↦
          let e : nat_lt b (suc m) ≡ nat_lt b m = other_below b m not in
          rw (one_below h b m, not, e) (append-nil (if nat_lt b m then h b ∷ [] else []))
    ]
  where
    other_below : (b m : ℕ) → (m == b) ≡ false → nat_lt b (suc m) ≡ nat_lt b m
    other_below b m not = elim (cases_Bool (nat_lt b m)) [
      | inl is ↦ let w : nat_lt b (suc m) ≡ true = grind (arith, nat_tests) in w ∙ sym is
      | inr over ↦ let w : nat_lt b (suc m) ≡ false = grind (arith, nat_tests) in w ∙ sym over
    ]

-- hops that are the same below m
agree_below : (to other : ℕ → Option Hop) (m : ℕ) → ((j : ℕ) → j < m → to j ≡ other j) → hops_below to m ≡ hops_below other m
agree_below to other zero same = refl
agree_below to other (suc m) same =
    let here = same m (omega arith) in
    let before = agree_below to other m (λ j below. same j (omega (arith, below))) in
    rw (here, before) refl

-- a ring's, whatever nodes stand behind it
pub before_inside : (n k : ℕ) → k < n → beyond n backward k < n
before_inside n k within = elim (cases_Bool (k == 0)) [
  | inl is ↦ rw is (omega arith)
  | inr not ↦ rw not (grind (arith, nat_tests))
]

pub next_inside : (n k : ℕ) → k < n → beyond n onward k < n
next_inside n k within = elim (cases_Bool (k + 1 == n)) [
  | inl is ↦ rw is (omega arith)
  | inr not ↦ rw not (grind (arith, nat_tests))
]

less_is : (i m : ℕ) → i < m → nat_lt i m ≡ true
less_is i m less = grind (arith, nat_tests)

not_less : (i m : ℕ) → m ≤ i → nat_lt i m ≡ false
not_less i m over = grind (arith, nat_tests)

ring_all : (n m k : ℕ) (o : Port) → k < n → n ≤ m → hops_below (ring_hop_to n k o) m ≡ ring n k o
ring_all n m k H within more = none_below m
ring_all n m k A within more =
    let inside = before_inside n k within in
    let one : nat_lt (beyond n backward k) m ≡ true = less_is (beyond n backward k) m (omega (arith, inside, more)) in
    one_below (λ j. record { to = record { node = j; port = B }; links = j ∷ [] }) (beyond n backward k) m ∙ rw one refl
ring_all n m k B within more =
    let inside = next_inside n k within in
    let one : nat_lt (beyond n onward k) m ≡ true = less_is (beyond n onward k) m (omega (arith, inside, more)) in
    one_below (λ j. record { to = record { node = j; port = A }; links = k ∷ [] }) (beyond n onward k) m ∙ rw one refl
ring_all n m k C within more = none_below m

-- none below the first node behind a ring
none_until : (m i : ℕ) (to : ℕ → Option Hop) → i ≤ m → hops_below (λ j. if nat_lt j m then None else to j) i ≡ []
none_until m i to before =
    agree_below (λ j. if nat_lt j m then None else to j) (λ j. None) i (λ j below. (let low : nat_lt j m ≡ true = less_is j m (omega (arith, below, before)) in rw low refl))
    ∙ none_below i

option_list_map : {X Y : Type 0} (f : X → Y) (x : Option X) → option_to_list (option_map f x) ≡ map f (option_to_list x)
option_list_map f None = refl
option_list_map f (Some x) = refl

-- those of the right ring
right_all : (left : ℕ) (to : ℕ → Option Hop) (r : ℕ) → hops_below (beyond_left left to) (left + r) ≡ map (shifted left) (hops_below to r)
right_all left to zero =
    let e : left + zero ≡ left = omega arith in
    rw e (none_until left left (λ j. option_map (shifted left) (to (j - left))) (omega arith))
right_all left to (suc r) =
    let e : left + suc r ≡ suc (left + r) = omega arith in
    let over : nat_lt (left + r) left ≡ false = not_less (left + r) left (omega arith) in
    let place : (left + r) - left ≡ r = omega arith in
    let before = right_all left to r in
    rw (e, over, place, option_list_map (shifted left) (to r), before, map-append (shifted left) (hops_below to r) (option_to_list (to r))) refl

pub lan_more : (p : Port) (own first : ℕ) (is js : List ℕ) → lan_copies p own first (is ++ js) ≡ lan_copies p own first is ++ lan_copies p own first js
lan_more p own first [] js = refl
lan_more p own first (i ∷ is) js = rw (lan_more p own first is js) refl

-- one node of the LANs more
lan_step : (ring : ℕ) (p : Port) (own first k d : ℕ) →
    lan_copies p own first (others ring d k) ++ option_to_list (lan_hop_to ring p own first k (ring + d))
    ≡ lan_copies p own first (others ring (suc d) k)
lan_step ring p own first k d =
    let over : nat_lt (ring + d) ring ≡ false = not_less (ring + d) ring (omega arith) in
    elim (cases_Bool (ring + d == k)) [
      | inl is ↦ rw (over, is) (append-nil (lan_copies p own first (others ring d k)))
      | inr not ↦ rw (over, not) (sym (lan_more p own first (others ring d k) ((ring + d) ∷ [])))
    ]

lan_all : (ring : ℕ) (p : Port) (own first k d : ℕ) → hops_below (lan_hop_to ring p own first k) (ring + d) ≡ lan_copies p own first (others ring d k)
lan_all ring p own first k zero =
    let e : ring + zero ≡ ring = omega arith in
    rw e (none_until ring ring (λ j. if j == k then None else Some (record { to = record { node = j; port = p }; links = own ∷ (first + j) ∷ [] })) (omega arith))
lan_all ring p own first k (suc d) =
    let e : ring + suc d ≡ suc (ring + d) = omega arith in
    let before = lan_all ring p own first k d in
    rw (e, before) (lan_step ring p own first k d)

-- the box, and then the nodes of the LANs
box_all : (ring box over : ℕ) (p : Port) (own first k d : ℕ) → box < ring →
    hops_below (to_box_or_lan ring box over p own first k) (ring + d)
    ≡ record { to = interlink_of box; links = own ∷ over ∷ [] } ∷ lan_copies p own first (others ring d k)
box_all ring box over p own first k zero inside =
    let e : ring + zero ≡ ring = omega arith in
    let one : nat_lt box ring ≡ true = less_is box ring inside in
    let low : hops_below (to_box_or_lan ring box over p own first k) ring ≡ hops_below (λ j. if j == box then Some (record { to = interlink_of box; links = own ∷ over ∷ [] }) else None) ring =
    agree_below (to_box_or_lan ring box over p own first k) (λ j. if j == box then Some (record { to = interlink_of box; links = own ∷ over ∷ [] }) else None) ring (λ j below. (let l : nat_lt j ring ≡ true = less_is j ring below in rw l refl)) in
    rw e (low ∙ (one_below (λ j. record { to = interlink_of box; links = own ∷ over ∷ [] }) box ring ∙ rw one refl))
box_all ring box over p own first k (suc d) inside =
    let e : ring + suc d ≡ suc (ring + d) = omega arith in
    let other : (ring + d == box) ≡ false = grind (arith, nat_tests) in
    let before = box_all ring box over p own first k d inside in
    rw (e, other, before) (ap (λ (hs : List Hop). record { to = interlink_of box; links = own ∷ over ∷ [] } ∷ hs) (lan_step ring p own first k d))

-- over the links between boxes
over_all : (s : TwoShape) (n link : ℕ) (js : List (ℕ × ℕ)) (k : ℕ) → s.left + s.right ≡ n → AreJoins s js → hops_below (over_to link js k) n ≡ over_hops link js k
over_all s n link [] k sum joins = none_below n
over_all s n link (j ∷ js) k sum joins =
    elim (cases_Bool (k == j.0)) [
      | inl left ↦
          let one : nat_lt j.1 n ≡ true = less_is j.1 n (omega (arith, joins.2, sum)) in
          rw left (agree_below (over_to link (j ∷ js) k) (λ i. if i == j.1 then Some (record { to = interlink_of j.1; links = link ∷ [] }) else None) n (λ i below. rw left refl)
          ∙ (one_below (λ i. record { to = interlink_of j.1; links = link ∷ [] }) j.1 n ∙ rw one refl))
      | inr not_left ↦ elim (cases_Bool (k == j.1)) [
        | inl right ↦
            let one : nat_lt j.0 n ≡ true = less_is j.0 n (omega (arith, joins.0, sum)) in
            rw (not_left, right) (agree_below (over_to link (j ∷ js) k) (λ i. if i == j.0 then Some (record { to = interlink_of j.0; links = link ∷ [] }) else None) n (λ i below. rw (not_left, right) refl)
            ∙ (one_below (λ i. record { to = interlink_of j.0; links = link ∷ [] }) j.0 n ∙ rw one refl))
        | inr neither ↦
            rw (not_left, neither) (agree_below (over_to link (j ∷ js) k) (over_to (link + 1) js k) n (λ i below. rw (not_left, neither) refl)
            ∙ over_all s n (link + 1) js k sum joins.5)
      ]
    ]

ring_lan_all : (s : RingLanShape) (n k : ℕ) (o : Port) → k < n → s.ring + s.lan ≡ n → s.box_a < s.ring → s.box_b < s.ring →
    hops_below (ring_lan_hop_to s k o) n ≡ ring_lan (lan_shape s) k o
ring_lan_all s n k H within sum a b = none_below n
ring_lan_all s n k A within sum a b = elim (cases_Bool (nat_lt k s.ring)) [
  | inl inside ↦
      let less : k < s.ring = grind (arith, nat_tests) in
      rw inside (agree_below (ring_lan_hop_to s k A) (ring_hop_to s.ring k A) n (λ j below. rw inside refl) ∙ ring_all s.ring n k A less (omega (arith, sum)))
  | inr outside ↦
      rw outside (agree_below (ring_lan_hop_to s k A) (to_box_or_lan s.ring s.box_a (s.ring + s.lan) A k 0 k) n (λ j below. rw outside refl)
      ∙ rw (← sum) (box_all s.ring s.box_a (s.ring + s.lan) A k 0 k s.lan a))
]
ring_lan_all s n k B within sum a b = elim (cases_Bool (nat_lt k s.ring)) [
  | inl inside ↦
      let less : k < s.ring = grind (arith, nat_tests) in
      rw inside (agree_below (ring_lan_hop_to s k B) (ring_hop_to s.ring k B) n (λ j below. rw inside refl) ∙ ring_all s.ring n k B less (omega (arith, sum)))
  | inr outside ↦
      rw outside (agree_below (ring_lan_hop_to s k B) (to_box_or_lan s.ring s.box_b (s.ring + 2 * s.lan + 1) B (s.lan + 1 + k) (s.lan + 1) k) n (λ j below. rw outside refl)
      ∙ rw (← sum) (box_all s.ring s.box_b (s.ring + 2 * s.lan + 1) B (s.lan + 1 + k) (s.lan + 1) k s.lan b))
]
ring_lan_all s n k C within sum a b = elim (cases_Bool (k == s.box_a)) [
  | inl is ↦
      rw is (agree_below (ring_lan_hop_to s k C) (lan_hop_to s.ring A (s.ring + s.lan) 0 k) n (λ j below. rw is refl)
      ∙ rw (← sum) (lan_all s.ring A (s.ring + s.lan) 0 k s.lan))
  | inr not_a ↦ elim (cases_Bool (k == s.box_b)) [
    | inl is ↦
        rw (not_a, is) (agree_below (ring_lan_hop_to s k C) (lan_hop_to s.ring B (s.ring + 2 * s.lan + 1) (s.lan + 1) k) n (λ j below. rw (not_a, is) refl)
        ∙ rw (← sum) (lan_all s.ring B (s.ring + 2 * s.lan + 1) (s.lan + 1) k s.lan))
    | inr not_b ↦ rw (not_a, not_b) (agree_below (ring_lan_hop_to s k C) (λ j. None) n (λ j below. rw (not_a, not_b) refl) ∙ none_below n)
  ]
]

pub in_right : (left right n k : ℕ) → k < n → left + right ≡ n → nat_lt k left ≡ false → (k - left) < right
in_right left right n k within sum outside = grind (arith, nat_tests)

two_all : (s : TwoRingsShape) (n k : ℕ) (o : Port) → k < n → s.left + s.right ≡ n → AreJoins (two_shape s) (joins_of s) →
    hops_below (two_rings_hop_to s k o) n ≡ two_rings (two_shape s) k o
two_all s n k H within sum joins = none_below n
two_all s n k A within sum joins = elim (cases_Bool (nat_lt k s.left)) [
  | inl inside ↦
      let less : k < s.left = grind (arith, nat_tests) in
      rw inside (agree_below (two_rings_hop_to s k A) (ring_hop_to s.left k A) n (λ j below. rw inside refl) ∙ ring_all s.left n k A less (omega (arith, sum)))
  | inr outside ↦
      let within_right = in_right s.left s.right n k within sum outside in
      rw outside (agree_below (two_rings_hop_to s k A) (beyond_left s.left (ring_hop_to s.right (k - s.left) A)) n (λ j below. rw outside refl)
      ∙ (rw (← sum) (right_all s.left (ring_hop_to s.right (k - s.left) A) s.right) ∙ ap (map (shifted s.left)) (ring_all s.right s.right (k - s.left) A within_right (omega arith))))
]
two_all s n k B within sum joins = elim (cases_Bool (nat_lt k s.left)) [
  | inl inside ↦
      let less : k < s.left = grind (arith, nat_tests) in
      rw inside (agree_below (two_rings_hop_to s k B) (ring_hop_to s.left k B) n (λ j below. rw inside refl) ∙ ring_all s.left n k B less (omega (arith, sum)))
  | inr outside ↦
      let within_right = in_right s.left s.right n k within sum outside in
      rw outside (agree_below (two_rings_hop_to s k B) (beyond_left s.left (ring_hop_to s.right (k - s.left) B)) n (λ j below. rw outside refl)
      ∙ (rw (← sum) (right_all s.left (ring_hop_to s.right (k - s.left) B) s.right) ∙ ap (map (shifted s.left)) (ring_all s.right s.right (k - s.left) B within_right (omega arith))))
]
two_all s n k C within sum joins = over_all (two_shape s) n (s.left + s.right) (joins_of s) k sum joins

pub lan_append : (p : Port) (first k : ℕ) (is js : List ℕ) → lan_hops p first k (is ++ js) ≡ lan_hops p first k is ++ lan_hops p first k js
lan_append p first k [] js = refl
lan_append p first k (i ∷ is) js = rw (lan_append p first k is js) refl

-- the hops to all other nodes
lan_below : (p : Port) (first k m : ℕ) →
    hops_below (λ j. if j == k then None else Some (record { to = record { node = j; port = p }; links = (first + k) ∷ (first + j) ∷ [] })) m
    ≡ lan_hops p first k (other_members m k)
lan_below p first k zero = refl
lan_below p first k (suc m) =
    elim (cases_Bool (m == k)) [
      | inl is ↦ rw (lan_below p first k m, is) (append-nil (lan_hops p first k (other_members m k)))
      | inr not ↦ rw (lan_below p first k m, not) (sym (lan_append p first k (other_members m k) (m ∷ [])))
    ]

-- all hops from an outlet
twin_all : (n k : ℕ) (o : Port) → hops_below (twin_hop_to n k o) n ≡ twin_lans n k o
twin_all n k H = none_below n
twin_all n k A = lan_below A 0 k n
twin_all n k B = lan_below B n k n
twin_all n k C = none_below n

pub hops_all : (t : Topology) (n k : ℕ) (o : Port) → k < n → IsJoinedAs t n → hops_below (hop_to t n k o) n ≡ net_of t n k o
hops_all Ring n k o within joined = ring_all n n k o within (omega arith)
hops_all TwinLan n k o within joined = twin_all n k o
hops_all (RingLan s) n k o within joined = ring_lan_all s n k o within joined.sum joined.a_inside joined.b_inside
hops_all (TwoRings s) n k o within joined = two_all s n k o within joined.sum joined.joins

-- round a ring a hop leads to one node alone, and so it does where the ring is a part
pub only_in_ring_lan : (s : RingLanShape) (k : ℕ) (o : Port) (r : Option ℕ) → k < s.ring → (o ≡ C → r ≡ None) →
    IfSome r (λ m. LeadsOnlyTo (ring_hop_to s.ring k o) m) → IfSome r (λ m. LeadsOnlyTo (ring_lan_hop_to s k o) m)
only_in_ring_lan s k o None inside none only = only
only_in_ring_lan s k H (Some m) inside none only = λ j other. refl
only_in_ring_lan s k A (Some m) inside none only = λ j other. (rw (less_is k s.ring inside) (only j other))
only_in_ring_lan s k B (Some m) inside none only = λ j other. (rw (less_is k s.ring inside) (only j other))
only_in_ring_lan s k C (Some m) inside none only = let e : Some m ≡ None = none refl in absurd (cc)

pub only_in_left : (s : TwoRingsShape) (k : ℕ) (o : Port) (r : Option ℕ) → k < s.left → (o ≡ C → r ≡ None) →
    IfSome r (λ m. LeadsOnlyTo (ring_hop_to s.left k o) m) → IfSome r (λ m. LeadsOnlyTo (two_rings_hop_to s k o) m)
only_in_left s k o None inside none only = only
only_in_left s k H (Some m) inside none only = λ j other. refl
only_in_left s k A (Some m) inside none only = λ j other. (rw (less_is k s.left inside) (only j other))
only_in_left s k B (Some m) inside none only = λ j other. (rw (less_is k s.left inside) (only j other))
only_in_left s k C (Some m) inside none only = let e : Some m ≡ None = none refl in absurd (cc)

pub only_in_right : (s : TwoRingsShape) (k : ℕ) (o : Port) (r : Option ℕ) → s.left ≤ k → (o ≡ C → r ≡ None) →
    IfSome r (λ m. LeadsOnlyTo (beyond_left s.left (ring_hop_to s.right (k - s.left) o)) m) → IfSome r (λ m. LeadsOnlyTo (two_rings_hop_to s k o) m)
only_in_right s k o None outside none only = only
only_in_right s k H (Some m) outside none only = λ j other. refl
only_in_right s k A (Some m) outside none only = λ j other. (rw (not_less k s.left outside) (only j other))
only_in_right s k B (Some m) outside none only = λ j other. (rw (not_less k s.left outside) (only j other))
only_in_right s k C (Some m) outside none only = let e : Some m ≡ None = none refl in absurd (cc)

-- the hops to those nodes to which hops lead are all
pub none_before : (to : ℕ → Option Hop) (first behind n : ℕ) → first ≤ n → LeadsWithin to first behind n → hops_below to first ≡ []
none_before to first behind n within leads =
    agree_below to (λ j. None) first (λ j below. leads j (omega (arith, below, within)) (inl below)) ∙ none_below first

none_behind : (to : ℕ → Option Hop) (behind d : ℕ) → ((j : ℕ) → behind ≤ j → j < behind + d → to j ≡ None) → hops_below to behind ≡ hops_below to (behind + d)
none_behind to behind zero none = let e : behind + zero ≡ behind = omega arith in rw e refl
none_behind to behind (suc d) none =
    let e : behind + suc d ≡ suc (behind + d) = omega arith in
    let last : to (behind + d) ≡ None = none (behind + d) (omega arith) (omega arith) in
    let before = none_behind to behind d (λ j over below. none j over (omega (arith, below))) in
    rw (e, last) (before ∙ sym (append-nil (hops_below to (behind + d))))

pub all_below : (to : ℕ → Option Hop) (first behind n : ℕ) → behind ≤ n → LeadsWithin to first behind n → hops_below to behind ≡ hops_below to n
all_below to first behind n within leads =
    let e : behind + (n - behind) ≡ n = omega arith in
    rw e at (none_behind to behind (n - behind) (λ j over below. leads j (omega (arith, below, within)) (inr over)))
