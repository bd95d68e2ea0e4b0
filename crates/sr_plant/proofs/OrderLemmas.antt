-- A plant stays in order.
use Rattle.std.proofs.Common.{◌≡◌, ℕ, zero, suc, ◌+◌, ◌-◌, ◌*◌, ◌<◌, ◌≤◌, ◌==◌, nat_lt, Bool, true, List, [], ◌∷◌, length, map, not, slice_get, slice_set, Option, Some, None, ◌⊎◌, refl, sym, ap, ◌∙◌, subst, inl, inr, take, drop, arith}
use Rattle.std.specs.List.{filter}
use Rattle.std.proofs.lemmas.Bool.{cases_Bool}
use Rattle.std.proofs.lemmas.Bool.Decides.{nat_tests}
use Rattle.std.proofs.lemmas.List.{length-set}
use Rattle.sr_frame.specs.declared.ports.Port.{Port}
use Rattle.sr_frame.specs.declared.ports.Port.TheVariants.{H, A, B, C}
use Rattle.sr_forwarding.specs.Parcels.{ParcelImage}
use Rattle.sr_forwarding.specs.declared.outlets.Outlets.{Outlets as Set}
use Rattle.sr_forwarding.specs.KindLemmas.{learned_keeps}
use Rattle.sr_node.specs.declared.event.Answer.{Answer}
use Rattle.sr_node.specs.declared.event.Answer.TheVariants as answer
use Rattle.sr_node.specs.declared.event.Event.{Event}
use Rattle.sr_node.specs.declared.event.Event.TheVariants as event
use Rattle.sr_node.specs.Images.{State, time_at}
use Rattle.sr_node.specs.Arriving.{Arrived, PassedTo, goes, going_on, header_at}
use Rattle.sr_node.specs.Steps.{Step}
use Rattle.sr_laws_plant.specs.Lists.{Each}
use Rattle.sr_laws_plant.specs.ListLemmas.{each_append}
use Rattle.sr_laws_plant.specs.Ledger.{Hop}
use Rattle.sr_laws_plant.specs.Rings.{ring}
use Rattle.sr_laws_plant.specs.TwinLans.{other_members, lan_hops}
use Rattle.sr_laws_plant.specs.RingLans.{others, lan_copies, ring_lan}
use Rattle.sr_laws_plant.specs.TwoRings.{TwoShape, shifted, over_hops, AreJoins, two_rings}
use Rattle.sr_plant.specs.declared.shapes.RingLanShape.{RingLanShape}
use Rattle.sr_plant.specs.declared.shapes.TwoRingsShape.{TwoRingsShape}
use Rattle.sr_plant.specs.declared.topology.Topology.{Topology}
use Rattle.sr_plant.specs.declared.topology.Topology.TheVariants.{Ring, TwinLan, RingLan, TwoRings}
use Rattle.sr_plant.specs.Topologies.{net_of, kind_of, IsJoinedAs, IsRingLan, AreTwoRings, lan_shape, two_shape, joins_of}
use Rattle.sr_plant.specs.Copies.{Copy, is_on, is_stopped}
use Rattle.sr_plant.specs.Puts.{copy_over, all_put, put_out, those_passing}
use Rattle.sr_plant.specs.Plants.{Plant, IsEmptied, AreKinds, IsInOrder}
use Rattle.sr_plant.specs.Steps.{emptied, acted, Acts, without}
use Rattle.sr_plant.proofs.HopLemmas.{lan_append, lan_more, before_inside, next_inside, in_right}

each_set : {X : Type 0} (P : X → Type 0) (xs : List X) (i : ℕ) (y : X) → Each P xs → P y → Each P (slice_set xs i y)
each_set P [] i y each one = tt
each_set P (x ∷ xs) zero y each one = (one, each.1)
each_set P (x ∷ xs) (suc i) y each one = (each.0, each_set P xs i y each.1 one)

pub each_got : {X : Type 0} (P : X → Type 0) (xs : List X) (i : ℕ) (x : X) → Each P xs → slice_get xs i ≡ Some x → (i < length xs) × P x
each_got P [] i x each at = absurd (cc)
each_got P (y ∷ ys) zero x each at = let same : y ≡ x = cc in (omega arith, rw (← same) each.0)
each_got P (y ∷ ys) (suc i) x each at = let r = each_got P ys i x each.1 at in (omega (arith, r.0), r.1)

pub got_within : {X : Type 0} (xs : List X) (i : ℕ) (x : X) → slice_get xs i ≡ Some x → i < length xs
got_within [] i x at = absurd (cc)
got_within (y ∷ ys) zero x at = omega arith
got_within (y ∷ ys) (suc i) x at = let r = got_within ys i x at in omega (arith, r)

-- what a list has at a place of which one was set: the new one there, or what it had
got_set : {X : Type 0} (xs : List X) (i : ℕ) (y : X) (k : ℕ) (x : X) → slice_get (slice_set xs i y) k ≡ Some x →
    ((k ≡ i) × (x ≡ y)) ⊎ (slice_get xs k ≡ Some x)
got_set [] i y k x at = absurd (cc)
got_set (z ∷ zs) zero y zero x at = let e : y ≡ x = cc in inl (refl, sym e)
got_set (z ∷ zs) zero y (suc k) x at = inr at
got_set (z ∷ zs) (suc i) y zero x at = inr at
got_set (z ∷ zs) (suc i) y (suc k) x at = elim (got_set zs i y k x at) [
  | inl set ↦ inl (ap suc set.0, set.1)
  | inr old ↦ inr old
]

-- a node takes a place where its kind is the topology's
kinds_set : (t : Topology) (ns : List State) (i : ℕ) (u : State) → AreKinds t ns → u.role.kind ≡ kind_of t i → AreKinds t (slice_set ns i u)
kinds_set t ns i u kinds kind k n at = elim (got_set ns i u k n at) [
  | inl set ↦ rw (set.0, set.1) kind
  | inr old ↦ kinds k n old
]

pub each_filter : {X : Type 0} (P : X → Type 0) (p : X → Bool) (xs : List X) → Each P xs → Each P (filter p xs)
each_filter P p [] each = tt
each_filter P p (x ∷ xs) each = elim (cases_Bool (p x)) [
  | inl is ↦ rw is (each.0, each_filter P p xs each.1)
  | inr not ↦ rw not (each_filter P p xs each.1)
]

pub each_take : {X : Type 0} (P : X → Type 0) (xs : List X) (i : ℕ) → Each P xs → Each P (take i xs)
each_take P xs zero each = tt
each_take P [] (suc i) each = tt
each_take P (x ∷ xs) (suc i) each = (each.0, each_take P xs i each.1)

pub each_drop : {X : Type 0} (P : X → Type 0) (xs : List X) (i : ℕ) → Each P xs → Each P (drop i xs)
each_drop P xs zero each = each
each_drop P [] (suc i) each = tt
each_drop P (x ∷ xs) (suc i) each = each_drop P xs i each.1

-- hops lead to nodes of the plant
others_within : (k n m : ℕ) (p : Port) (first : ℕ) → Each (λ h. h.to.node < n + m) (lan_hops p first k (other_members n k))
others_within k zero m p first = tt
others_within k (suc n) m p first =
    let below : Each (λ h. h.to.node < suc n + m) (lan_hops p first k (other_members n k)) =
    subst (λ (b : ℕ). Each (λ h. h.to.node < b) (lan_hops p first k (other_members n k))) (omega arith) (others_within k n (suc m) p first) in
    elim (cases_Bool (n == k)) [
      | inl is ↦ rw is below
      | inr not ↦ rw (not, lan_append p first k (other_members n k) (n ∷ [])) (each_append (λ (h : Hop). h.to.node < suc n + m) (lan_hops p first k (other_members n k)) (lan_hops p first k (n ∷ [])) below (omega arith, tt))
    ]

-- through LANs behind a ring
lans_within : (p : Port) (own first r d k m : ℕ) → r + d ≤ m → Each (λ h. h.to.node < m) (lan_copies p own first (others r d k))
lans_within p own first r zero k m fits = tt
lans_within p own first r (suc d) k m fits =
    let before = lans_within p own first r d k m (omega (arith, fits)) in
    elim (cases_Bool (r + d == k)) [
      | inl is ↦ rw is before
      | inr not ↦ rw (not, lan_more p own first (others r d k) ((r + d) ∷ [])) (each_append (λ (h : Hop). h.to.node < m) (lan_copies p own first (others r d k)) (lan_copies p own first ((r + d) ∷ [])) before (omega (arith, fits), tt))
    ]

ring_lan_within : (s : RingLanShape) (n k : ℕ) (o : Port) → IsRingLan s n → Each (λ h. h.to.node < n) (ring_lan (lan_shape s) k o)
ring_lan_within s n k H joined = tt
ring_lan_within s n k A joined = elim (cases_Bool (nat_lt k s.ring)) [
  | inl inside ↦
      let less : k < s.ring = grind (arith, nat_tests) in
      let next = before_inside s.ring k less in
      let sum = joined.sum in
      rw inside (omega (arith, next, sum), tt)
  | inr outside ↦
      let sum = joined.sum in
      let a = joined.a_inside in
      rw outside (omega (arith, a, sum), lans_within A k 0 s.ring s.lan k n (omega (arith, sum)))
]
ring_lan_within s n k B joined = elim (cases_Bool (nat_lt k s.ring)) [
  | inl inside ↦
      let less : k < s.ring = grind (arith, nat_tests) in
      let next = next_inside s.ring k less in
      let sum = joined.sum in
      rw inside (omega (arith, next, sum), tt)
  | inr outside ↦
      let sum = joined.sum in
      let b = joined.b_inside in
      rw outside (omega (arith, b, sum), lans_within B (s.lan + 1 + k) (s.lan + 1) s.ring s.lan k n (omega (arith, sum)))
]
ring_lan_within s n k C joined =
    let sum = joined.sum in
    elim (cases_Bool (k == s.box_a)) [
      | inl is ↦ rw is (lans_within A (s.ring + s.lan) 0 s.ring s.lan k n (omega (arith, sum)))
      | inr not_a ↦ elim (cases_Bool (k == s.box_b)) [
        | inl is ↦ rw (not_a, is) (lans_within B (s.ring + 2 * s.lan + 1) (s.lan + 1) s.ring s.lan k n (omega (arith, sum)))
        | inr not_b ↦ rw (not_a, not_b) tt
      ]
    ]

-- round the right ring, and over to the other one
shift_within : (left right : ℕ) (hs : List Hop) → Each (λ h. h.to.node < right) hs → Each (λ h. h.to.node < left + right) (map (shifted left) hs)
shift_within left right [] each = tt
shift_within left right (h ∷ hs) each = let low = each.0 in (omega (arith, low), shift_within left right hs each.1)

over_within : (s : TwoShape) (link : ℕ) (js : List (ℕ × ℕ)) (k : ℕ) → AreJoins s js → Each (λ h. h.to.node < s.left + s.right) (over_hops link js k)
over_within s link [] k joins = tt
over_within s link (j ∷ js) k joins = elim (cases_Bool (k == j.0)) [
  | inl left ↦ rw left (joins.2, tt)
  | inr not_left ↦ elim (cases_Bool (k == j.1)) [
    | inl right ↦ let low = joins.0 in rw (not_left, right) (omega (arith, low), tt)
    | inr neither ↦ rw (not_left, neither) (over_within s (link + 1) js k joins.5)
  ]
]

two_rings_within : (s : TwoRingsShape) (n k : ℕ) (o : Port) → k < n → AreTwoRings s n → Each (λ h. h.to.node < n) (two_rings (two_shape s) k o)
two_rings_within s n k H within joined = tt
two_rings_within s n k A within joined = elim (cases_Bool (nat_lt k s.left)) [
  | inl inside ↦
      let less : k < s.left = grind (arith, nat_tests) in
      let next = before_inside s.left k less in
      let sum = joined.sum in
      rw inside (omega (arith, next, sum), tt)
  | inr outside ↦
      let less = in_right s.left s.right n k within joined.sum outside in
      rw outside (subst (λ (b : ℕ). Each (λ h. h.to.node < b) (map (shifted s.left) (ring s.right (k - s.left) A))) joined.sum (shift_within s.left s.right (ring s.right (k - s.left) A) (before_inside s.right (k - s.left) less, tt)))
]
two_rings_within s n k B within joined = elim (cases_Bool (nat_lt k s.left)) [
  | inl inside ↦
      let less : k < s.left = grind (arith, nat_tests) in
      let next = next_inside s.left k less in
      let sum = joined.sum in
      rw inside (omega (arith, next, sum), tt)
  | inr outside ↦
      let less = in_right s.left s.right n k within joined.sum outside in
      rw outside (subst (λ (b : ℕ). Each (λ h. h.to.node < b) (map (shifted s.left) (ring s.right (k - s.left) B))) joined.sum (shift_within s.left s.right (ring s.right (k - s.left) B) (next_inside s.right (k - s.left) less, tt)))
]
two_rings_within s n k C within joined =
    subst (λ (b : ℕ). Each (λ h. h.to.node < b) (over_hops (s.left + s.right) (joins_of s) k)) joined.sum (over_within (two_shape s) (s.left + s.right) (joins_of s) k joined.joins)

net_within : (t : Topology) (n k : ℕ) (o : Port) → k < n → IsJoinedAs t n → Each (λ h. h.to.node < n) (net_of t n k o)
net_within Ring n k H within joined = tt
net_within Ring n k A within joined = (before_inside n k within, tt)
net_within Ring n k B within joined = (next_inside n k within, tt)
net_within Ring n k C within joined = tt
net_within TwinLan n k H within joined = tt
net_within TwinLan n k A within joined = subst (λ (b : ℕ). Each (λ h. h.to.node < b) (lan_hops A 0 k (other_members n k))) (omega arith) (others_within k n 0 A 0)
net_within TwinLan n k B within joined = subst (λ (b : ℕ). Each (λ h. h.to.node < b) (lan_hops B n k (other_members n k))) (omega arith) (others_within k n 0 B n)
net_within TwinLan n k C within joined = tt
net_within (RingLan s) n k o within joined = ring_lan_within s n k o joined
net_within (TwoRings s) n k o within joined = two_rings_within s n k o within joined

copies_within : (n k : ℕ) (o : Port) (p : ParcelImage) (hs : List Hop) → Each (λ h. h.to.node < n) hs → Each (λ c. c.hop.to.node < n) (map (copy_over k o p) hs)
copies_within n k o p [] each = tt
copies_within n k o p (h ∷ hs) each = (each.0, copies_within n k o p hs each.1)

put_within : (t : Topology) (n k : ℕ) (o : Port) (ps : List ParcelImage) → k < n → IsJoinedAs t n → Each (λ c. c.hop.to.node < n) (all_put t n k o ps)
put_within t n k o [] within joined = tt
put_within t n k o (p ∷ ps) within joined =
    each_append (λ (c : Copy). c.hop.to.node < n) _ _ (copies_within n k o p (net_of t n k o) (net_within t n k o within joined)) (put_within t n k o ps within joined)

-- a node keeps its kind
pub arrived_kind : (s : State) (port : Port) (p : ParcelImage) (now : ℕ) (a : Answer) (t : State) → Arrived s port p now a t → t.role.kind ≡ s.role.kind
arrived_kind s port p now answer.Own t came = rw came.1 refl
arrived_kind s port p now (answer.Passed outlets) t came = by_outlets (goes s port p now) came.1
  where
    by_outlets : (o : Option Set) → PassedTo s port p now o outlets t → t.role.kind ≡ s.role.kind
    by_outlets None came = absurd came
    by_outlets (Some o) came = rw came.3 (learned_keeps s.role (header_at s (going_on s port p) now) port now).0
arrived_kind s port p now (answer.Sent number) t came = absurd came
arrived_kind s port p now (answer.Ticked sources nodes proxies life) t came = absurd came
arrived_kind s port p now (answer.Taken given) t came = absurd came

step_kind : (s : State) (e : Event) (a : Answer) (t : State) → Step s e a t → t.role.kind ≡ s.role.kind
step_kind s (event.Arrive port p now) a t step = arrived_kind s port p (time_at s now) a t step
step_kind s (event.Send frame now) (answer.Sent number) t step = rw step.1 refl
step_kind s (event.Send frame now) answer.Own t step = absurd step
step_kind s (event.Send frame now) (answer.Passed outlets) t step = absurd step
step_kind s (event.Send frame now) (answer.Ticked sources nodes proxies life) t step = absurd step
step_kind s (event.Send frame now) (answer.Taken given) t step = absurd step
step_kind s (event.Tick now) (answer.Ticked sources nodes proxies life) t step = rw step.4 refl
step_kind s (event.Tick now) answer.Own t step = absurd step
step_kind s (event.Tick now) (answer.Passed outlets) t step = absurd step
step_kind s (event.Tick now) (answer.Sent number) t step = absurd step
step_kind s (event.Tick now) (answer.Taken given) t step = absurd step
step_kind s (event.Take port) (answer.Taken given) t step = rw step.1 refl
step_kind s (event.Take port) answer.Own t step = absurd step
step_kind s (event.Take port) (answer.Passed outlets) t step = absurd step
step_kind s (event.Take port) (answer.Sent number) t step = absurd step
step_kind s (event.Take port) (answer.Ticked sources nodes proxies life) t step = absurd step

-- a plant of which a node acted
pub acted_in_order : (s : Plant) (i now : ℕ) (before u : State) → IsInOrder s → slice_get s.nodes i ≡ Some before → u.role.kind ≡ before.role.kind →
    IsInOrder (acted s i u now)
acted_in_order s i now before u order there kind =
    let same : length (slice_set s.nodes i (emptied u)) ≡ length s.nodes = length-set s.nodes i (emptied u) in
    let within = got_within s.nodes i before there in
    let n = length s.nodes in
    let out = u.core.out in
    let put : Each (λ c. c.hop.to.node < n) (put_out s.topology n i out) =
    each_append (λ (c : Copy). c.hop.to.node < n) _ _ (put_within s.topology n i A out.a within order.joined) (each_append (λ (c : Copy). c.hop.to.node < n) _ _ (put_within s.topology n i B out.b within order.joined) (put_within s.topology n i C out.c within order.joined)) in
    let flight = each_append (λ (c : Copy). c.hop.to.node < n) s.flight (those_passing s.cut (put_out s.topology n i out)) order.receivers (each_filter (λ (c : Copy). c.hop.to.node < n) (λ c. not (is_stopped s.cut c)) (put_out s.topology n i out) put) in
    record {
      size = rw same order.size;
      joined = rw same order.joined;
      kinds = kinds_set s.topology s.nodes i (emptied u) order.kinds (kind ∙ order.kinds i before there);
      emptied = each_set IsEmptied s.nodes i (emptied u) order.emptied refl;
      links = rw same order.links;
      hosts = rw same (length-set _ i _ ∙ order.hosts);
      receivers = rw same flight;
    }

pub acts_in_order : (s : Plant) (i now : ℕ) (e : Event) (t : Plant) → IsInOrder s → Acts s i e now t → IsInOrder t
acts_in_order s i now e t order acts =
    subst IsInOrder (sym acts.plant) (acted_in_order s i now acts.before acts.after order acts.there (step_kind acts.before e acts.answer acts.after acts.step))

-- a plant of which a link was cut
pub cut_in_order : (s : Plant) (link : ℕ) → IsInOrder s →
    IsInOrder (record s { flight = filter (λ c. not (is_on link c)) s.flight; cut = slice_set s.cut link true })
cut_in_order s link order = record {
  size = order.size;
  joined = order.joined;
  kinds = order.kinds;
  emptied = order.emptied;
  links = length-set s.cut link true ∙ order.links;
  hosts = order.hosts;
  receivers = each_filter (λ (c : Copy). c.hop.to.node < length s.nodes) (λ c. not (is_on link c)) s.flight order.receivers;
}

-- a plant without one of its copies
pub without_in_order : (s : Plant) (place : ℕ) → IsInOrder s → IsInOrder (without s place)
without_in_order s place order = record {
  size = order.size;
  joined = order.joined;
  kinds = order.kinds;
  emptied = order.emptied;
  links = order.links;
  hosts = order.hosts;
  receivers = each_append (λ (c : Copy). c.hop.to.node < length s.nodes) (take place s.flight) (drop (suc place) s.flight) (each_take (λ (c : Copy). c.hop.to.node < length s.nodes) s.flight place order.receivers) (each_drop (λ (c : Copy). c.hop.to.node < length s.nodes) s.flight (suc place) order.receivers);
}
