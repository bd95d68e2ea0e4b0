-- Of what nodes a plant is made.
use Rattle.std.proofs.Common.{rules, ◌≡◌, ℕ, zero, suc, ◌+◌, ◌<◌, ◌≤◌, ◌==◌, Some, slice_get, arith, Bool, true, false, not, ◌&&◌, ◌||◌, List, [], ◌∷◌, ◌++◌, length, map, drop, get_or, refl, sym, ap, ◌∙◌, inl, inr, Option, None, nat_le, nat_lt, length-append}
use Rattle.std.proofs.lemmas.Bool.{cases_Bool, ne_eqb, eq-eqb, true≢false}
use borrow.Author.Tests.{leb-true}
use Rattle.std.specs.Bool.{Decides}
use Rattle.std.proofs.lemmas.Bool.Decides.{nat_tests}
use Rattle.std.proofs.lemmas.List.{length-replicate}
use Rattle.sr_frame.specs.declared.fields.Mac.{Mac}
use Rattle.sr_frame.specs.Addresses.{mac_eq}
use Rattle.sr_forwarding.specs.Parcels.{ParcelImage}
use Rattle.sr_forwarding.specs.declared.kind.RoleKind.{RoleKind}
use Rattle.sr_forwarding.specs.contracts.kind.RoleKindPartialEq.TheImpl as kind
use Rattle.sr_node.specs.Images.{State}
use Rattle.sr_node.specs.Outboxes.{boxes_empty}
use Rattle.sr_laws_plant.specs.Lists.{Each}
use Rattle.sr_laws_plant.specs.TwoRings.{is_joined, AreJoins}
use Rattle.sr_plant.specs.declared.shapes.RingLanShape.{RingLanShape}
use Rattle.sr_plant.specs.declared.shapes.TwoRingsShape.{TwoRingsShape}
use Rattle.sr_plant.specs.declared.shapes.Join.{Join}
use Rattle.sr_plant.specs.declared.topology.Topology.{Topology}
use Rattle.sr_plant.specs.declared.topology.Topology.TheVariants.{Ring, TwinLan, RingLan, TwoRings}
use Rattle.sr_plant.specs.Topologies.{kind_of, link_count, IsJoinedAs, IsRingLan, AreTwoRings, joined_pair, second_join, two_shape}
use Rattle.sr_plant.specs.Plants.{IsEmptied, IsInOrder}
use Rattle.sr_plant.specs.Building.{is_between, has_boxes, is_join, is_second_join, is_size, is_plant_of_both, are_apart_from, has_nothing_waiting, is_fit, are_fit, has_address, are_apart, is_plant, opening}
use Rattle.sr_plant.specs.Limits.{fewest_nodes, most_nodes, fewest_with_boxes, most_in_lans, most_members}
use Rattle.sr_plant.proofs.ListLemmas.{drop_at}

both : (a b : Bool) → (a && b) ≡ true → (a ≡ true) × (b ≡ true)
both true b e = (refl, e)
both false b e = absurd (cc)

decides_kind : (j k : RoleKind) → Decides (kind.ghosts.eq j k) (j ≡ k)
decides_kind j k = search (rules, nat_tests)

all_empty : (h a b c : List ParcelImage) → has_nothing_waiting (record { h = h; a = a; b = b; c = c }) ≡ true →
    record { h = h; a = a; b = b; c = c } ≡ boxes_empty
all_empty [] [] [] [] e = refl
all_empty [] [] [] (p ∷ c) e = absurd (cc)
all_empty [] [] (p ∷ b) c e = absurd (cc)
all_empty [] (p ∷ a) b c e = absurd (cc)
all_empty (p ∷ h) a b c e = absurd (cc)

fit_at : (t : Topology) (k : ℕ) (n : State) (ns : List State) → are_fit t k (n ∷ ns) ≡ true →
    (n.role.kind ≡ kind_of t k) × IsEmptied n × (are_fit t (suc k) ns ≡ true)
fit_at t k n ns e =
    let fit = both (is_fit t k n) (are_fit t (suc k) ns) e in
    let parts = both (kind.ghosts.eq n.role.kind (kind_of t k)) (has_nothing_waiting n.core.out) fit.0 in
    ((decides_kind n.role.kind (kind_of t k)).0 parts.0, all_empty n.core.out.h n.core.out.a n.core.out.b n.core.out.c parts.1, fit.1)

-- from a place on
are_of_kind : (t : Topology) (first : ℕ) (ns : List State) → are_fit t first ns ≡ true → (k : ℕ) (n : State) → slice_get ns k ≡ Some n →
    n.role.kind ≡ kind_of t (first + k)
are_of_kind t first [] e k n at = absurd (cc)
are_of_kind t first (m ∷ ns) e zero n at =
    let same : m ≡ n = cc in
    let here : first + zero ≡ first = omega arith in
    rw (here, ← same) (fit_at t first m ns e).0
are_of_kind t first (m ∷ ns) e (suc k) n at =
    let further : first + suc k ≡ suc first + k = omega arith in
    rw further (are_of_kind t (suc first) ns (fit_at t first m ns e).2 k n at)

are_emptied : (t : Topology) (first : ℕ) (ns : List State) → are_fit t first ns ≡ true → Each IsEmptied ns
are_emptied t first [] e = tt
are_emptied t first (n ∷ ns) e = let fit = fit_at t first n ns e in (fit.1, are_emptied t (suc first) ns fit.2)

-- looking at one node more
pub has_here : {N : Type 0} (f : N → State) (ns : List N) (i : ℕ) (n : N) (mac : Mac) → i < length ns → get_or ns i n ≡ n →
    mac_eq (f n).role.mac mac ≡ true → has_address mac (drop i (map f ns)) ≡ true
has_here f ns i n mac within here same = rw (drop_at f ns i (suc i) n refl within here, same) refl

pub has_further : {N : Type 0} (f : N → State) (ns : List N) (i j : ℕ) (n : N) (mac : Mac) → j ≡ suc i → i < length ns → get_or ns i n ≡ n →
    mac_eq (f n).role.mac mac ≡ false → has_address mac (drop i (map f ns)) ≡ has_address mac (drop j (map f ns))
has_further f ns i j n mac next within here other = rw (drop_at f ns i j n next within here, other) refl

pub unfit_here : {N : Type 0} (f : N → State) (ns : List N) (k i : ℕ) (n : N) (t : Topology) → i < length ns → get_or ns i n ≡ n →
    is_fit t k (f n) ≡ false → are_fit t k (drop i (map f ns)) ≡ false
unfit_here f ns k i n t within here unfit = rw (drop_at f ns i (suc i) n refl within here, unfit) refl

pub fit_further : {N : Type 0} (f : N → State) (ns : List N) (k l i j : ℕ) (n : N) (t : Topology) → l ≡ suc k → j ≡ suc i → i < length ns →
    get_or ns i n ≡ n → is_fit t k (f n) ≡ true → are_fit t k (drop i (map f ns)) ≡ are_fit t l (drop j (map f ns))
fit_further f ns k l i j n t more next within here fit = rw (drop_at f ns i j n next within here, fit, more) refl

pub taken_here : {N : Type 0} (f : N → State) (ns : List N) (i : ℕ) (n : N) (others : List State) → i < length ns → get_or ns i n ≡ n →
    has_address (f n).role.mac others ≡ true → are_apart_from (drop i (map f ns)) others ≡ false
taken_here f ns i n others within here taken = rw (drop_at f ns i (suc i) n refl within here, taken) refl

pub apart_further : {N : Type 0} (f : N → State) (ns : List N) (i j : ℕ) (n : N) (others : List State) → j ≡ suc i → i < length ns →
    get_or ns i n ≡ n → has_address (f n).role.mac others ≡ false →
    are_apart_from (drop i (map f ns)) others ≡ are_apart_from (drop j (map f ns)) others
apart_further f ns i j n others next within here free = rw (drop_at f ns i j n next within here, free) refl

-- so many nodes are joined so
between : (fewest most n : ℕ) → is_between fewest most n ≡ true → (fewest ≤ n) × (n ≤ most)
between fewest most n e = let p = both (nat_le fewest n) (nat_le n most) e in (leb-true fewest n p.0, leb-true n most p.1)

pub record SizedRingLan (s : RingLanShape) (n : ℕ) : Type 0 where
  pub joined : IsRingLan s n
  pub ring : s.ring ≤ most_nodes
  pub lan : s.lan ≤ most_in_lans

pub ring_lan_sized : (s : RingLanShape) (n : ℕ) → is_size (RingLan s) n ≡ true → SizedRingLan s n
ring_lan_sized s n e =
    let ring = is_between fewest_with_boxes most_nodes s.ring in
    let lans = is_between 1 most_in_lans s.lan in
    let sum = s.ring + s.lan == n in
    let p = both ((ring && lans) && sum) (has_boxes s) e in
    let q = both (ring && lans) sum p.0 in
    let r = both ring lans q.0 in
    let a = nat_lt s.box_a s.ring in
    let b = nat_lt s.box_b s.ring in
    let other = not (s.box_a == s.box_b) in
    let y = both (a && b) other p.1 in
    let z = both a b y.0 in
    let sum_is = q.1 in
    let a_is = z.0 in
    let b_is = z.1 in
    let size = between fewest_with_boxes most_nodes s.ring r.0 in
    let behind = between 1 most_in_lans s.lan r.1 in
    record {
      joined = record {
        sum = grind (arith, nat_tests, sum_is);
        a_inside = grind (arith, nat_tests, a_is);
        b_inside = grind (arith, nat_tests, b_is);
      };
      ring = size.1;
      lan = behind.1;
    }

-- two boxes are not those of another join
not_joined : (k a b : ℕ) → (k ≡ a → ⊥) → (k ≡ b → ⊥) → is_joined ((a, b) ∷ []) k ≡ false
not_joined k a b not_a not_b = rw (ne_eqb k a not_a, ne_eqb k b not_b) refl

record IsJoin (s : TwoRingsShape) (j : Join) : Type 0 where
  pub left : j.left < s.left
  pub right : s.left ≤ j.right
  pub inside : j.right < s.left + s.right

join_is : (s : TwoRingsShape) (j : Join) → is_join s j ≡ true → IsJoin s j
join_is s j e =
    let left = nat_lt j.left s.left in
    let right = nat_le s.left j.right in
    let inside = nat_lt j.right (s.left + s.right) in
    let p = both (left && right) inside e in
    let q = both left right p.0 in
    let left_is = q.0 in
    let inside_is = p.1 in
    record { left = grind (arith, nat_tests, left_is); right = leb-true s.left j.right q.1; inside = grind (arith, nat_tests, inside_is) }

are_joins : (s : TwoRingsShape) (second : Option Join) → IsJoin s s.first → is_second_join s second ≡ true →
    AreJoins (two_shape s) (joined_pair s.first ∷ second_join second)
are_joins s None first e = (first.left, first.right, first.inside, refl, refl, tt)
are_joins s (Some j) first e =
    let other_left = not (j.left == s.first.left) in
    let other_right = not (j.right == s.first.right) in
    let p = both (is_join s j && other_left) other_right e in
    let q = both (is_join s j) other_left p.0 in
    let is = join_is s j q.0 in
    let left_is = q.1 in
    let right_is = p.1 in
    let low = first.left in
    let high = first.right in
    let below = is.left in
    let above = is.right in
    let ll : s.first.left ≡ j.left → ⊥ = λ same. apart j.left s.first.left left_is same in
    let rr : s.first.right ≡ j.right → ⊥ = λ same. apart j.right s.first.right right_is same in
    let lr : s.first.left ≡ j.right → ⊥ = λ same. omega (arith, low, above, same) in
    let rl : s.first.right ≡ j.left → ⊥ = λ same. omega (arith, high, below, same) in (
      first.left,
      first.right,
      first.inside,
      not_joined s.first.left j.left j.right ll lr,
      not_joined s.first.right j.left j.right rl rr,
      (is.left, is.right, is.inside, refl, refl, tt),
    )
  where
    apart : (a b : ℕ) → not (a == b) ≡ true → b ≡ a → ⊥
    apart a b e same = true≢false (sym e ∙ ap not (eq-eqb a b (sym same)))

pub record SizedTwoRings (s : TwoRingsShape) (n : ℕ) : Type 0 where
  pub joined : AreTwoRings s n
  pub left : s.left ≤ most_nodes
  pub right : s.right ≤ most_nodes

pub two_rings_sized : (s : TwoRingsShape) (n : ℕ) → is_size (TwoRings s) n ≡ true → SizedTwoRings s n
two_rings_sized s n e =
    let left = is_between fewest_nodes most_nodes s.left in
    let right = is_between fewest_nodes most_nodes s.right in
    let sum = s.left + s.right == n in
    let first = is_join s s.first in
    let p = both (((left && right) && sum) && first) (is_second_join s s.second) e in
    let q = both ((left && right) && sum) first p.0 in
    let r = both (left && right) sum q.0 in
    let x = both left right r.0 in
    let sum_is = r.1 in
    record {
      joined = record {
        sum = grind (arith, nat_tests, sum_is);
        joins = are_joins s s.second (join_is s s.first q.1) p.1;
      };
      left = (between fewest_nodes most_nodes s.left x.0).1;
      right = (between fewest_nodes most_nodes s.right x.1).1;
    }

pub sized_joined : (t : Topology) (n : ℕ) → is_size t n ≡ true → IsJoinedAs t n
sized_joined Ring n e = tt
sized_joined TwinLan n e = tt
sized_joined (RingLan s) n e = (ring_lan_sized s n e).joined
sized_joined (TwoRings s) n e = (two_rings_sized s n e).joined

pub sized_small : (t : Topology) (n : ℕ) → is_size t n ≡ true → n ≤ most_members
sized_small Ring n e = let b = (between fewest_nodes most_nodes n e).1 in omega (arith, b)
sized_small TwinLan n e = let b = (between fewest_nodes most_nodes n e).1 in omega (arith, b)
sized_small (RingLan s) n e =
    let sized = ring_lan_sized s n e in
    let ring = sized.ring in
    let lans = sized.lan in
    let sum = sized.joined.sum in
    omega (arith, ring, lans, sum)
sized_small (TwoRings s) n e =
    let sized = two_rings_sized s n e in
    let left = sized.left in
    let right = sized.right in
    let sum = sized.joined.sum in
    omega (arith, left, right, sum)

pub plant_parts : (t : Topology) (ns : List State) → is_plant t ns ≡ true → (is_size t (length ns) ≡ true) × (are_fit t 0 ns ≡ true)
plant_parts t ns e =
    let sized = is_size t (length ns) in
    both sized (are_fit t 0 ns) (both (sized && are_fit t 0 ns) (are_apart ns) e).0

pub plant_is_small : (t : Topology) (ns : List State) → is_plant t ns ≡ true → length ns ≤ most_members
plant_is_small t ns e = sized_small t (length ns) (plant_parts t ns e).0

pub plant_is_joined : (t : Topology) (ns : List State) → is_plant t ns ≡ true → IsJoinedAs t (length ns)
plant_is_joined t ns e = sized_joined t (length ns) (plant_parts t ns e).0

-- a new plant is in order
pub opening_in_order : (t : Topology) (ns : List State) → is_plant t ns ≡ true → IsInOrder (opening t ns)
opening_in_order t ns e = record {
  size = plant_is_small t ns e;
  joined = plant_is_joined t ns e;
  kinds = λ k n at. (let here : 0 + k ≡ k = omega arith in rw here at (are_of_kind t 0 ns (plant_parts t ns e).1 k n at));
  emptied = are_emptied t 0 ns (plant_parts t ns e).1;
  links = length-replicate (link_count t (length ns)) false;
  hosts = length-replicate (length ns) [];
  receivers = tt;
}

-- of the nodes of two lists
pub fit_append : (t : Topology) (k : ℕ) (ns ms : List State) → are_fit t k (ns ++ ms) ≡ (are_fit t k ns && are_fit t (k + length ns) ms)
fit_append t k [] ms = let e : k + 0 ≡ k = omega arith in rw e refl
fit_append t k (n ∷ ns) ms =
    let e : k + length (n ∷ ns) ≡ suc k + length ns = omega arith in
    rw (e, fit_append t (suc k) ns ms) (and_assoc (is_fit t k n) (are_fit t (suc k) ns) (are_fit t (suc k + length ns) ms))
  where
    and_assoc : (a b c : Bool) → (a && (b && c)) ≡ ((a && b) && c)
    and_assoc true b c = refl
    and_assoc false b c = refl

has_append : (mac : Mac) (ns ms : List State) → has_address mac (ns ++ ms) ≡ (has_address mac ns || has_address mac ms)
has_append mac [] ms = refl
has_append mac (n ∷ ns) ms = elim (cases_Bool (mac_eq n.role.mac mac)) [
  | inl is ↦ rw is refl
  | inr not ↦ rw not (has_append mac ns ms)
]

pub apart_append : (ns ms : List State) → are_apart (ns ++ ms) ≡ ((are_apart ns && are_apart ms) && are_apart_from ns ms)
apart_append [] ms = or_so (are_apart ms)
  where
    or_so : (b : Bool) → b ≡ (b && true)
    or_so true = refl
    or_so false = refl
apart_append (n ∷ ns) ms =
    rw (has_append n.role.mac ns ms, apart_append ns ms)
    (shuffled (has_address n.role.mac ns) (has_address n.role.mac ms) (are_apart ns) (are_apart ms) (are_apart_from ns ms))
  where
    shuffled : (p q r s t : Bool) → (not (p || q) && ((r && s) && t)) ≡ (((not p && r) && s) && (not q && t))
    shuffled true q r s t = refl
    shuffled false true true true t = refl
    shuffled false true true false t = refl
    shuffled false true false s t = refl
    shuffled false false true true t = refl
    shuffled false false true false t = refl
    shuffled false false false s t = refl

pub plant_of_both : (t : Topology) (ns ms : List State) → is_plant_of_both t ns ms ≡ is_plant t (ns ++ ms)
plant_of_both t ns ms =
    let here : 0 + length ns ≡ length ns = omega arith in
    rw (length-append ns ms, fit_append t 0 ns ms, apart_append ns ms, here) (put_so (is_size t (length ns + length ms)) (are_fit t 0 ns) (are_fit t (length ns) ms) (are_apart ns) (are_apart ms) (are_apart_from ns ms))
  where
    put_so : (s f g a b c : Bool) → (((((s && f) && g) && a) && b) && c) ≡ ((s && (f && g)) && ((a && b) && c))
    put_so true true true a b c = refl
    put_so true true false a b c = refl
    put_so true false g a b c = refl
    put_so false f g a b c = refl
