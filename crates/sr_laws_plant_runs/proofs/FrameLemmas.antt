-- The frames that parcels show, by the addresses of their nodes.
use Rattle.std.proofs.Common.{◌≡◌, ◌⊎◌, inl, inr, ℕ, zero, suc, ◌+◌, ◌<◌, ◌≤◌, ◌==◌, not, Bool, true, false, List, [], ◌∷◌, map, length, Some, slice_get, refl, sym, ap, ◌∙◌, arith}
use Rattle.std.proofs.lemmas.Bool.{cases_Bool, cases_eq, eqb-true, eq-eqb, ne_eqb, true≢false, false_from_ne_true, and_parts}
use Rattle.sr_frame.specs.Addresses.{mac_eq}
use Rattle.sr_frame.specs.AddressLemmas.{mac_same, mac_refl, mac_symm}
use Rattle.sr_frame.specs.declared.fields.Mac.{Mac}
use Rattle.sr_frame.specs.declared.ports.Port.TheVariants.{H}
use Rattle.std.specs.Prelude.{◌%◌, take}
use Rattle.std.proofs.Common.{nat_eq}
use Rattle.std.specs.Cmp.Lexicographic.{pointwise}
use Rattle.sr_supervision.specs.Supervised.{supervision_address}
use Rattle.sr_forwarding.specs.Octets.{dst_in, type_in, is_supervision}
use Rattle.sr_forwarding.specs.RoleImages.{is_group}
use Rattle.sr_node.specs.Starts.{Start, begun_as}
use Rattle.sr_laws_plant.specs.Frames.{Dest, one, group, is_only}
use Rattle.sr_laws_plant.specs.Handlings.{Handling, is_sending, sent_count}
use Rattle.sr_laws_plant.specs.OneNode.{handed}
use Rattle.sr_laws_plant.specs.Premises.{AreAddressed}
use Rattle.sr_plant.specs.Building.{has_address, are_apart}
use Rattle.sr_laws_box.specs.Members.{is_to_group}
use Rattle.sr_laws_plant_runs.specs.Histories.{member_with, dest_of, mac_at, HaveOwnAddresses}
use Rattle.sr_laws_plant_runs.proofs.ZipLemmas.{turned}

-- addresses
pub address_at : (starts : List Start) (k : ℕ) (r : Start) → slice_get starts k ≡ Some r → (mac_at starts k ≡ r.role.mac) × (k < length starts)
address_at [] k r at = absurd cc
address_at (x ∷ starts) zero r at = let same : x ≡ r = cc in (ap (λ y. y.role.mac) same, omega arith)
address_at (x ∷ starts) (suc k) r at = let rest = address_at starts k r at in (rest.0, omega (arith, rest.1))

none_has : (starts : List Start) (mac : Mac) (j : ℕ) → has_address mac (map begun_as starts) ≡ false → j < length starts → mac_eq (mac_at starts j) mac ≡ false
none_has [] mac j none within = absurd (omega arith)
none_has (r ∷ starts) mac zero none within = elim (cases_Bool (mac_eq r.role.mac mac)) [
  | inl is ↦ (let no = rw is at none in absurd cc)
  | inr other ↦ other
]
none_has (r ∷ starts) mac (suc j) none within = elim (cases_Bool (mac_eq r.role.mac mac)) [
  | inl is ↦ (let no = rw is at none in absurd cc)
  | inr other ↦ none_has starts mac j (rw other at none) (omega (arith, within))
]

next_eq : (i j : ℕ) → (i == j) ≡ (suc i == suc j)
next_eq i j = elim (cases_eq i j) [
  | inl e ↦ eq-eqb i j e ∙ sym (eq-eqb (suc i) (suc j) (ap suc e))
  | inr ne ↦ ne_eqb i j ne ∙ sym (ne_eqb (suc i) (suc j) (λ e. ne (omega (arith, e))))
]

not_true : (b : Bool) → not b ≡ true → b ≡ false
not_true true e = sym e
not_true false e = refl

apart_each : (starts : List Start) → are_apart (map begun_as starts) ≡ true → (i j : ℕ) → i < length starts → j < length starts → mac_eq (mac_at starts i) (mac_at starts j) ≡ (i == j)
apart_each [] apart i j a b = absurd (omega arith)
apart_each (r ∷ starts) apart zero zero a b = mac_refl r.role.mac ∙ sym (eq-eqb zero zero refl)
apart_each (r ∷ starts) apart zero (suc j) a b =
    let both = and_parts (not (has_address r.role.mac (map begun_as starts))) (are_apart (map begun_as starts)) apart in
    mac_symm r.role.mac (mac_at starts j) ∙ none_has starts r.role.mac j (not_true (has_address r.role.mac (map begun_as starts)) both.0) (omega (arith, b)) ∙ sym (ne_eqb zero (suc j) (λ e. absurd (omega (arith, e))))
apart_each (r ∷ starts) apart (suc i) zero a b =
    let both = and_parts (not (has_address r.role.mac (map begun_as starts))) (are_apart (map begun_as starts)) apart in
    none_has starts r.role.mac i (not_true (has_address r.role.mac (map begun_as starts)) both.0) (omega (arith, a)) ∙ sym (ne_eqb (suc i) zero (λ e. absurd (omega (arith, e))))
apart_each (r ∷ starts) apart (suc i) (suc j) a b =
    let both = and_parts (not (has_address r.role.mac (map begun_as starts))) (are_apart (map begun_as starts)) apart in
    apart_each starts both.1 i j (omega (arith, a)) (omega (arith, b)) ∙ next_eq i j

pub addressed : (starts : List Start) → are_apart (map begun_as starts) ≡ true → AreAddressed (mac_at starts) (length starts)
addressed starts apart = record { apart = apart_each starts apart }

pub no_groups : (starts : List Start) → HaveOwnAddresses starts → (k : ℕ) → k < length starts → is_group (mac_at starts k) ≡ false
no_groups [] own k within = absurd (omega arith)
no_groups (r ∷ starts) own zero within = own.0.1
no_groups (r ∷ starts) own (suc k) within = no_groups starts own.1 k (omega (arith, within))

index_below : (mac : ℕ → Mac) (n m : ℕ) (dst : Mac) → (member_with mac n m dst < m) ⊎ (member_with mac n m dst ≡ n)
index_below mac n zero dst = inr refl
index_below mac n (suc m) dst =
    elim (cases_Bool (mac_eq dst (mac m))) [
      | inl is ↦ rw is (inl (omega arith))
      | inr other ↦ rw other (elim (index_below mac n m dst) [
        | inl less ↦ inl (omega (arith, less))
        | inr none ↦ inr none
      ])
    ]

index_is : (mac : ℕ → Mac) (n : ℕ) → AreAddressed mac n → (m : ℕ) (dst : Mac) → m ≤ n → (k : ℕ) → k < m → mac_eq dst (mac k) ≡ (k == member_with mac n m dst)
index_is mac n apart zero dst le k less = absurd (omega arith)
index_is mac n apart (suc m) dst le k less =
    elim (cases_Bool (mac_eq dst (mac m))) [
      | inl is ↦
          let same : dst ≡ mac m = mac_same dst (mac m) is in
          rw is (ap (λ x. mac_eq x (mac k)) same ∙ apart.apart m k (omega arith) (omega arith) ∙ turned m k)
      | inr other ↦
          elim (cases_eq k m) [
            | inl e ↦
                let at_m : mac_eq dst (mac k) ≡ false = ap (λ x. mac_eq dst (mac x)) e ∙ other in
                let low = index_below mac n m dst in
                rw other (at_m ∙ sym (ne_eqb k (member_with mac n m dst) (λ is. beyond k m n (member_with mac n m dst) e le low is)))
            | inr ne ↦ rw other (index_is mac n apart m dst (omega arith) k (omega arith))
          ]
    ]
  where
    beyond : (k m n i : ℕ) → k ≡ m → suc m ≤ n → (i < m) ⊎ (i ≡ n) → k ≡ i → ⊥
    beyond k m n i e le (inl low) is = omega arith
    beyond k m n i e le (inr top) is = omega arith

pub dest_one : (mac : ℕ → Mac) (n : ℕ) → AreAddressed mac n → ((k : ℕ) → k < n → is_group (mac k) ≡ false) → (dst : Mac) (k : ℕ) → k < n → mac_eq dst (mac k) ≡ is_only k (dest_of mac n dst)
dest_one mac n apart single dst k less =
    elim (cases_Bool (is_group dst)) [
      | inl all ↦
          let other : mac_eq dst (mac k) ≡ false = false_from_ne_true (mac_eq dst (mac k)) (λ e. true≢false (sym all ∙ ap is_group (mac_same dst (mac k) e) ∙ single k less)) in
          rw all other
      | inr alone ↦ rw alone (index_is mac n apart n dst (omega arith) k less)
    ]

pub dest_all : (mac : ℕ → Mac) (n : ℕ) (dst : Mac) → is_group dst ≡ is_to_group (dest_of mac n dst)
dest_all mac n dst =
    elim (cases_Bool (is_group dst)) [
      | inl all ↦ rw all refl
      | inr alone ↦ rw alone refl
    ]

-- supervision is for a group
pub supervised_group : (plain : List ℕ) → is_supervision plain ≡ true → is_group (dst_in plain) ≡ true
supervised_group plain is = by (take 6 plain) (and_parts (pointwise nat_eq (take 6 plain) supervision_address) (type_in plain == 0x88FB) is).0
  where
    by : (octets : List ℕ) → pointwise nat_eq octets supervision_address ≡ true → is_group (record { 0 = octets }) ≡ true
    by [] e = absurd (true≢false (sym e))
    by (a ∷ octets) e =
        let first = (and_parts (nat_eq a 1) (pointwise nat_eq octets (0x15 ∷ 0x4E ∷ 0x00 ∷ 0x01 ∷ 0x00 ∷ [])) e).0 in
        let one_is : a ≡ 1 = eqb-true a 1 first in
        ap (λ x. x % 2 == 1) one_is

pub none_alone : (k : ℕ) (d : Dest) → is_to_group d ≡ true → is_only k d ≡ false
none_alone k (one j) e = absurd (true≢false (sym e))
none_alone k group e = refl

-- what members numbered, and what they handed up, after one more
pub count_arrival : (k : ℕ) (d : Handling) (ds : List Handling) → is_sending d ≡ false → sent_count k (d ∷ ds) ≡ sent_count k ds
count_arrival k d ds e = rw e refl

pub count_here : (d : Handling) (ds : List Handling) → is_sending d ≡ true → sent_count d.node (d ∷ ds) ≡ sent_count d.node ds + 1
count_here d ds e = rw (e, eq-eqb d.node d.node refl) refl

pub count_other : (k : ℕ) (d : Handling) (ds : List Handling) → (k == d.node) ≡ false → sent_count k (d ∷ ds) ≡ sent_count k ds
count_other k d ds other = elim (cases_Bool (is_sending d)) [
  | inl is ↦ rw (is, other) refl
  | inr not_so ↦ rw not_so refl
]

pub handed_none : (j : ℕ) (d : Handling) (ds : List Handling) → d.went H ≡ false → handed j (d ∷ ds) ≡ handed j ds
handed_none j d ds e = elim (cases_Bool (j == d.node)) [
  | inl is ↦ rw (is, e) refl
  | inr not_so ↦ rw not_so refl
]

pub handed_other : (j : ℕ) (d : Handling) (ds : List Handling) → (j == d.node) ≡ false → handed j (d ∷ ds) ≡ handed j ds
handed_other j d ds other = rw other refl

pub handed_here : (d : Handling) (ds : List Handling) → d.went H ≡ true → handed d.node (d ∷ ds) ≡ d.frame ∷ handed d.node ds
handed_here d ds e = rw (eq-eqb d.node d.node refl, e) refl
