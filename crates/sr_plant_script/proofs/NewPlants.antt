-- Of new nodes a plant is made.
use Rattle.std.proofs.Common.{◌≡◌, ℕ, zero, suc, ◌+◌, ◌<◌, ◌≤◌, ◌==◌, true, false, not, nat_lt, List, [], ◌∷◌, ◌++◌, length, map, ap, refl, ◌∙◌, add-one, arith, inl, inr, length-append, rules, Decides}
use Rattle.std.proofs.lemmas.List.{map-append}
use Rattle.std.proofs.lemmas.Bool.{and_parts, cases_Bool}
use Rattle.std.proofs.lemmas.Bool.Decides.{nat_tests}
use Rattle.sr_forwarding.specs.declared.kind.RoleKind.{RoleKind}
use Rattle.sr_forwarding.specs.contracts.kind.RoleKindPartialEq.TheImpl as kind
use Rattle.sr_frame.specs.Addresses.{mac_eq}
use Rattle.sr_laws_plant.specs.TwoRings.{is_joined}
use Rattle.sr_plant.specs.declared.topology.Topology.{Topology}
use Rattle.sr_plant.specs.declared.topology.Topology.TheVariants.{Ring, TwinLan, RingLan, TwoRings}
use Rattle.sr_plant.specs.Topologies.{kind_of, joins_of}
use Rattle.sr_plant.specs.Building.{is_size, has_address, are_fit, are_apart, are_apart_from, is_plant}
use Rattle.sr_plant.proofs.BuildingLemmas.{fit_append, apart_append}
use Rattle.sr_node.specs.declared.mode.Settings.{Settings}
use Rattle.sr_node.specs.Images.{State}
use Rattle.sr_plant_script.specs.Members.{IsMemberKind, mac_of, new_node, new_nodes}

decides_kind : (j k : RoleKind) → Decides (kind.ghosts.eq j k) (j ≡ k)
decides_kind j k = search (rules, nat_tests)

count_new : (t : Topology) (x : Settings) (n : ℕ) → length (new_nodes t x n) ≡ n
count_new t x zero = refl
count_new t x (suc n) =
    let before = count_new t x n in
    rw (length-append (new_nodes t x n) (new_node t x n ∷ []), before) (omega arith)

-- each is of its kind
new_are_fit : (t : Topology) (x : Settings) (n : ℕ) → are_fit t 0 (new_nodes t x n) ≡ true
new_are_fit t x zero = refl
new_are_fit t x (suc n) =
    let place : 0 + length (new_nodes t x n) ≡ n = (let c = count_new t x n in omega (arith, c)) in
    rw (fit_append t 0 (new_nodes t x n) (new_node t x n ∷ []), new_are_fit t x n, place, (decides_kind (kind_of t n) (kind_of t n)).1 refl) refl

-- they are apart from one that comes later
apart_from_later : (t : Topology) (x : Settings) (n k : ℕ) → n ≤ k → are_apart_from (new_nodes t x n) (new_node t x k ∷ []) ≡ true
apart_from_later t x zero k before = refl
apart_from_later t x (suc n) k before =
    let rest = apart_from_later t x n k (omega (arith, before)) in
    let other : mac_eq (mac_of k) (mac_of n) ≡ false = later_address n k (omega (arith, before)) in
    apart_more (new_nodes t x n) (new_node t x n) (new_node t x k ∷ []) rest (rw other refl)
  where
    later_address : (i k : ℕ) → i < k → mac_eq (mac_of k) (mac_of i) ≡ false
    later_address i k less = elim (cases_Bool (k == i)) [
      | inl is ↦ (let same : k ≡ i = grind (arith, nat_tests, is) in absurd (omega (arith, less, same)))
      | inr not ↦ rw not refl
    ]

    apart_more : (ns : List State) (n : State) (others : List State) → are_apart_from ns others ≡ true → are_apart_from (n ∷ []) others ≡ true →
        are_apart_from (ns ++ n ∷ []) others ≡ true
    apart_more [] n others all one = one
    apart_more (m ∷ ns) n others all one =
        let p = and_parts (not (has_address m.role.mac others)) (are_apart_from ns others) all in
        rw (p.0, apart_more ns n others p.1 one) refl

new_are_apart : (t : Topology) (x : Settings) (n : ℕ) → are_apart (new_nodes t x n) ≡ true
new_are_apart t x zero = refl
new_are_apart t x (suc n) =
    rw (apart_append (new_nodes t x n) (new_node t x n ∷ []), new_are_apart t x n, apart_from_later t x n n (omega arith)) refl

pub makes_plant : (t : Topology) (x : Settings) (n : ℕ) → is_size t n ≡ true → is_plant t (new_nodes t x n) ≡ true
makes_plant t x n sized = rw (count_new t x n, sized, new_are_fit t x n, new_are_apart t x n) refl

-- its nodes are of kinds that a plant has
pub are_members : (t : Topology) (k : ℕ) → IsMemberKind (kind_of t k)
are_members Ring k = tt
are_members TwinLan k = tt
are_members (RingLan s) k = elim (cases_Bool (nat_lt k s.ring)) [
  | inl inside ↦ elim (cases_Bool (k == s.box_a)) [
    | inl is ↦ rw (inside, is) tt
    | inr not_a ↦ elim (cases_Bool (k == s.box_b)) [
      | inl is ↦ rw (inside, not_a, is) tt
      | inr not_b ↦ rw (inside, not_a, not_b) tt
    ]
  ]
  | inr outside ↦ rw outside tt
]
are_members (TwoRings s) k = elim (cases_Bool (is_joined (joins_of s) k)) [
  | inl is ↦ rw is tt
  | inr not ↦ rw not tt
]

-- one node more
pub nodes_more : {N : Type 0} (ns : List N) (f : N → State) (t : Topology) (x : Settings) (n : ℕ) (m : N) → map f ns ≡ new_nodes t x n → f m ≡ new_node t x n
    → map f (ns ++ m ∷ []) ≡ new_nodes t x (n + 1)
nodes_more {N} ns f t x n m so_far is =
    rw add-one (map-append f ns (m ∷ []) ∙ ap (λ (l : List State). l ++ f m ∷ []) so_far ∙ ap (λ (s : State). new_nodes t x n ++ s ∷ []) is)
