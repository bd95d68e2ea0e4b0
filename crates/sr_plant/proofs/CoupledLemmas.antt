-- Boxes among nodes, and of what nodes coupled networks are made.
use Rattle.std.proofs.Common.{◌≡◌, ℕ, suc, ◌<◌, ◌≤◌, ◌&&◌, nat_le, true, false, List, length, map, drop, get_or, refl, sym, ◌∙◌, inl, inr, arith}
use borrow.Author.Tests.{leb-true}
use Rattle.std.proofs.lemmas.Bool.{cases_Bool, and_parts, true≢false}
use Rattle.std.proofs.lemmas.Bool.Decides.{nat_tests}
use Rattle.sr_node.specs.Images.{State}
use Rattle.sr_plant.specs.declared.coupled.Sought.{Sought}
use Rattle.sr_plant.specs.Limits.{most_nodes}
use Rattle.sr_plant.specs.Building.{are_few, is_plant}
use Rattle.sr_plant.specs.Coupled.{is_sought, box_place, ring_lan_shape, two_rings_shape, ring_lan_of, two_rings_of}
use Rattle.sr_plant.proofs.ListLemmas.{drop_at}
use Rattle.sr_plant.proofs.BuildingLemmas.{ring_lan_sized, two_rings_sized, plant_parts}

-- looking at one node more
pub found_here : {N : Type 0} (f : N → State) (ns : List N) (i : ℕ) (n : N) (sought : Sought) (from : ℕ) → i < length ns → get_or ns i n ≡ n →
    (nat_le from i && is_sought sought (f n).role.kind) ≡ true → box_place sought from i (drop i (map f ns)) ≡ i
found_here f ns i n sought from within here found = rw (drop_at f ns i (suc i) n refl within here, found) refl

pub found_further : {N : Type 0} (f : N → State) (ns : List N) (i j : ℕ) (n : N) (sought : Sought) (from : ℕ) → j ≡ suc i → i < length ns →
    get_or ns i n ≡ n → (nat_le from i && is_sought sought (f n).role.kind) ≡ false →
    box_place sought from i (drop i (map f ns)) ≡ box_place sought from j (drop j (map f ns))
found_further f ns i j n sought from next within here found = rw (drop_at f ns i j n next within here, found, next) refl

-- not more than the nodes of a ring
pub few_are : (ns ms : List State) → are_few ns ms ≡ true → (length ns ≤ most_nodes) × (length ms ≤ most_nodes)
few_are ns ms e =
    let p = and_parts (nat_le (length ns) most_nodes) (nat_le (length ms) most_nodes) e in
    (leb-true (length ns) most_nodes p.0, leb-true (length ms) most_nodes p.1)

are_few_where : (ns ms : List State) → length ns ≤ most_nodes → length ms ≤ most_nodes → are_few ns ms ≡ true
are_few_where ns ms few less = rw (le_true (length ns) most_nodes few, le_true (length ms) most_nodes less) refl
  where
    le_true : (i m : ℕ) → i ≤ m → nat_le i m ≡ true
    le_true i m h = grind (arith, nat_tests)

pub many_in_ring_lan : (ring lan ns : List State) → are_few ring lan ≡ false → is_plant (ring_lan_of ring lan) ns ≡ false
many_in_ring_lan ring lan ns many = elim (cases_Bool (is_plant (ring_lan_of ring lan) ns)) [
  | inl is ↦
      let sized = ring_lan_sized (ring_lan_shape ring lan) (length ns) (plant_parts (ring_lan_of ring lan) ns is).0 in
      let ring_few = sized.ring in
      let lan_few = sized.lan in
      absurd (true≢false (sym (are_few_where ring lan ring_few (omega (arith, lan_few))) ∙ many))
  | inr not ↦ not
]

pub many_in_two_rings : (left right ns : List State) → are_few left right ≡ false → is_plant (two_rings_of left right) ns ≡ false
many_in_two_rings left right ns many = elim (cases_Bool (is_plant (two_rings_of left right) ns)) [
  | inl is ↦
      let sized = two_rings_sized (two_rings_shape left right) (length ns) (plant_parts (two_rings_of left right) ns is).0 in
      absurd (true≢false (sym (are_few_where left right sized.left sized.right) ∙ many))
  | inr not ↦ not
]
