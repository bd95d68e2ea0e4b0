-- The epochs of notings, and what a look-up finds behind what a table does.
use Rattle.std.proofs.Common.{
  ◌≡◌,
  ℕ,
  ◌-◌,
  Bool,
  true,
  false,
  cond,
  if◌then◌else◌,
  ◌||◌,
  ◌&&◌,
  List,
  [],
  ◌∷◌,
  ◌++◌,
  length,
  Option,
  None,
  Some,
  is_some,
  ℤ,
  arith,
  refl,
  sym,
  ap,
  ◌∙◌,
  inl,
  inr,
}
use Rattle.std.specs.Prelude.{nat_lt}
use Rattle.std.specs.Ordering.{int_eq}
use Rattle.std.specs.List.{list_any, IsDistinct}
use Rattle.std.specs.Map.{lookup, keys_of}
use Rattle.std.proofs.lemmas.Bool.{cases_Bool, lt-ltb}
use Rattle.std.proofs.lemmas.Map.Entries.{lookup-filter-values, option_filter}
use Rattle.std.proofs.lemmas.Map.Made.{IsDistinct-keys_filter}
use Rattle.sr_frame.specs.declared.fields.Mac.{Mac}
use Rattle.sr_dup_window.specs.declared.lane_sets.Lane.{Lane}
use Rattle.sr_dup_window.specs.LaneSets.{has, none}
use Rattle.sr_dup_window.specs.Families.{Family, singleton, join}
use Rattle.sr_frame.specs.Addresses.{mac_eq}
use Rattle.sr_frame.specs.AddressLemmas.{mac_laws}
use Rattle.sr_dup_table.specs.Limits.{most_sources, forget_time}
use Rattle.sr_dup_table.specs.Sources.{Remembered, Sources, is_live, live_at, with_room}
use Rattle.sr_laws_dup.specs.TableRuns.{Noting, epoch, greatest_of, is_copy, copies_of, was_noted, arrivals_of}

-- the notings of a source's epoch at a time
abbrev pub noted_epoch : Mac → ℕ → List Noting → List Noting
noted_epoch src now [] = []
noted_epoch src now (x ∷ before) =
    if mac_eq src x.arrival.src
    then (if nat_lt (now - x.arrival.time) forget_time then x ∷ noted_epoch src x.arrival.time before else [])
    else noted_epoch src now before

-- the greatest number of some notings, and a number near them all
abbrev pub top_of : List Noting → ℤ
top_of xs = greatest_of (arrivals_of xs)

-- the arrivals of its notings are the epoch
pub arrivals-epoch : (src : Mac) (now : ℕ) (xs : List Noting) → arrivals_of (noted_epoch src now xs) ≡ epoch src now (arrivals_of xs)
arrivals-epoch src now [] = refl
arrivals-epoch src now (x ∷ xs) =
    elim (cases_Bool (mac_eq src x.arrival.src)) [
      | inl own ↦
          elim (cases_Bool (nat_lt (now - x.arrival.time) forget_time)) [
            | inl live ↦ rw (own, live) (ap (λ ys. x.arrival ∷ ys) (arrivals-epoch src x.arrival.time xs))
            | inr old ↦ rw (own, old) refl
          ]
      | inr other ↦ rw other (arrivals-epoch src now xs)
    ]

-- where no arrival is a copy, none was noted
none_noted : (src : Mac) (n : ℤ) (lane : Lane) (xs : List Noting) → copies_of src n (arrivals_of xs) ≡ [] → was_noted src n lane xs ≡ false
none_noted src n lane [] none = refl
none_noted src n lane (x ∷ xs) none =
    elim (cases_Bool (is_copy src n x.arrival)) [
      | inl same ↦ let some : x.arrival ∷ copies_of src n (arrivals_of xs) ≡ [] = rw same at none in absurd cc
      | inr other ↦ rw other (none_noted src n lane xs (rw other at none))
    ]

-- where all copies are in the epoch, what was noted of them was noted in it
pub noted_in_epoch : (src : Mac) (now : ℕ) (n : ℤ) (lane : Lane) (xs : List Noting) →
    copies_of src n (arrivals_of xs) ≡ copies_of src n (epoch src now (arrivals_of xs)) →
    was_noted src n lane xs ≡ was_noted src n lane (noted_epoch src now xs)
noted_in_epoch src now n lane [] together = refl
noted_in_epoch src now n lane (x ∷ xs) together =
    elim (cases_Bool (mac_eq src x.arrival.src)) [
      | inl own ↦
          elim (cases_Bool (nat_lt (now - x.arrival.time) forget_time)) [
            | inl live ↦
                elim (cases_Bool (int_eq n x.arrival.number)) [
                  | inl same ↦
                      let both : x.arrival ∷ copies_of src n (arrivals_of xs) ≡ x.arrival
                      ∷ copies_of src n (epoch src x.arrival.time (arrivals_of xs)) = rw (own, live, own, same) at together in
                      let rest : copies_of src n (arrivals_of xs) ≡ copies_of src n (epoch src x.arrival.time (arrivals_of xs)) = cc in
                      rw (own, live, own, same) (ap (λ r. has x.lanes lane || r) (noted_in_epoch src x.arrival.time n lane xs rest))
                  | inr other ↦ rw (own, live, own, other)
                      (noted_in_epoch src x.arrival.time n lane xs (rw (own, live, own, other) at together))
                ]
            | inr old ↦
                let over : epoch src now (arrivals_of (x ∷ xs)) ≡ [] = rw (own, old) refl in
                let nothing : noted_epoch src now (x ∷ xs) ≡ [] = rw (own, old) refl in
                none_noted src n lane (x ∷ xs) (together ∙ ap (copies_of src n) over) ∙ sym (ap (was_noted src n lane) nothing)
          ]
      | inr other ↦ rw other (noted_in_epoch src now n lane xs (rw other at together))
    ]

-- the lanes and numbers of some arrivals of one source
abbrev pub family_of : List Noting → Family
family_of [] = λ lane n. false
family_of (x ∷ []) = singleton x.lanes x.arrival.number
family_of (x ∷ y ∷ before) = join (family_of (y ∷ before)) (singleton x.lanes x.arrival.number)

-- no time has passed
pub now_is_live : (now : ℕ) → nat_lt (now - now) forget_time ≡ true
now_is_live now = lt-ltb (now - now) forget_time (omega arith)

-- the family of some arrivals has a number where one of them does
pub family_any : (xs : List Noting) (lane : Lane) (n : ℤ) →
    family_of xs lane n ≡ list_any (λ x. int_eq n x.arrival.number && has x.lanes lane) xs
family_any [] lane n = refl
family_any (x ∷ []) lane n = or_none (int_eq n x.arrival.number && has x.lanes lane)
  where
    or_none : (b : Bool) → b ≡ (b || false)
    or_none true = refl
    or_none false = refl
family_any (x ∷ y ∷ before) lane n = turned (family_of (y ∷ before) lane n) (int_eq n x.arrival.number && has x.lanes lane) _
    (family_any (y ∷ before) lane n)
  where
    turned : (a b c : Bool) → a ≡ c → (a || b) ≡ (b || c)
    turned true true c e = refl
    turned true false c e = e
    turned false true c e = refl
    turned false false c e = e

-- one more arrival of the source, among the copies and among all
head_any : (src : Mac) (n : ℤ) (lane : Lane) (x : Noting) (xs : List Noting) → mac_eq src x.arrival.src ≡ true →
    list_any (λ y. int_eq n y.arrival.number && has y.lanes lane) xs ≡ was_noted src n lane xs →
    list_any (λ y. int_eq n y.arrival.number && has y.lanes lane) (x ∷ xs) ≡ was_noted src n lane (x ∷ xs)
head_any src n lane x xs own ih =
    elim (cases_Bool (int_eq n x.arrival.number)) [
      | inl same ↦ rw (own, same) (ap (λ r. has x.lanes lane || r) ih)
      | inr other ↦ rw (own, other) ih
    ]

-- all arrivals of an epoch are the source's
epoch_any : (src : Mac) (now : ℕ) (n : ℤ) (lane : Lane) (xs : List Noting) →
    list_any (λ y. int_eq n y.arrival.number && has y.lanes lane) (noted_epoch src now xs) ≡ was_noted src n lane (noted_epoch src now xs)
epoch_any src now n lane [] = refl
epoch_any src now n lane (x ∷ xs) =
    elim (cases_Bool (mac_eq src x.arrival.src)) [
      | inl own ↦
          elim (cases_Bool (nat_lt (now - x.arrival.time) forget_time)) [
            | inl live ↦ rw (own, live)
                (head_any src n lane x (noted_epoch src x.arrival.time xs) own (epoch_any src x.arrival.time n lane xs))
            | inr old ↦ rw (own, old) refl
          ]
      | inr other ↦ rw other (epoch_any src now n lane xs)
    ]

-- so the family of an epoch says what was noted in it
pub family_of_epoch : (src : Mac) (now : ℕ) (n : ℤ) (lane : Lane) (xs : List Noting) →
    family_of (noted_epoch src now xs) lane n ≡ was_noted src n lane (noted_epoch src now xs)
family_of_epoch src now n lane xs = family_any (noted_epoch src now xs) lane n ∙ epoch_any src now n lane xs

-- looking up behind one more entry
pub lookup_pushed : (q : Mac) (s : Sources) (m : Mac) (h : Remembered) →
    lookup (mac_eq q) (s ++ (m, h) ∷ []) ≡ cond (is_some (lookup (mac_eq q) s)) (lookup (mac_eq q) s) (cond (mac_eq q m) (Some h) None)
lookup_pushed q [] m h = refl
lookup_pushed q (e ∷ es) m h =
    elim (cases_Bool (mac_eq q e.0)) [
      | inl same ↦ rw same refl
      | inr other ↦ rw other (lookup_pushed q es m h)
    ]

pub keys_pushed : (s : Sources) (m : Mac) (h : Remembered) → keys_of (s ++ (m, h) ∷ []) ≡ keys_of s ++ m ∷ []
keys_pushed [] m h = refl
keys_pushed (e ∷ es) m h = ap (λ ks. e.0 ∷ ks) (keys_pushed es m h)

pub absent_key : (m : Mac) (s : Sources) → lookup (mac_eq m) s ≡ None → list_any (mac_eq m) (keys_of s) ≡ false
absent_key m [] lacks = refl
absent_key m (e ∷ es) lacks =
    elim (cases_Bool (mac_eq m e.0)) [
      | inl same ↦ let found : Some e.1 ≡ None = rw same at lacks in absurd cc
      | inr other ↦ rw other (absent_key m es (rw other at lacks))
    ]

-- looking up where the forgotten may have gone
pub lookup_live : (q : Mac) (s : Sources) (now : ℕ) → IsDistinct mac_eq (keys_of s) →
    lookup (mac_eq q) (live_at now s) ≡ option_filter (is_live now) (lookup (mac_eq q) s)
lookup_live q s now keys = lookup-filter-values mac_laws (is_live now) q s keys

pub lookup_with_room : (q : Mac) (s : Sources) (now : ℕ) → IsDistinct mac_eq (keys_of s) →
    lookup (mac_eq q) (with_room now s) ≡ cond (nat_lt (length s) most_sources) (lookup (mac_eq q) s)
    (option_filter (is_live now) (lookup (mac_eq q) s))
lookup_with_room q s now keys =
    elim (cases_Bool (nat_lt (length s) most_sources)) [
      | inl room ↦ rw room refl
      | inr full ↦ rw full (lookup_live q s now keys)
    ]

pub keys_with_room : (s : Sources) (now : ℕ) → IsDistinct mac_eq (keys_of s) → IsDistinct mac_eq (keys_of (with_room now s))
keys_with_room s now keys =
    elim (cases_Bool (nat_lt (length s) most_sources)) [
      | inl room ↦ rw room keys
      | inr full ↦ rw full (IsDistinct-keys_filter mac_eq (λ e. is_live now e.1) s keys)
    ]

pub absent_with_room : (m : Mac) (s : Sources) (now : ℕ) → IsDistinct mac_eq (keys_of s) → lookup (mac_eq m) s ≡ None →
    lookup (mac_eq m) (with_room now s) ≡ None
absent_with_room m s now keys lacks =
    elim (cases_Bool (nat_lt (length s) most_sources)) [
      | inl room ↦ rw (lookup_with_room m s now keys, room) lacks
      | inr full ↦ rw (lookup_with_room m s now keys, full, lacks) refl
    ]

-- what is found, or else nothing, is what is found
pub itself : (o : Option Remembered) → cond (is_some o) o None ≡ o
itself None = refl
itself (Some h) = refl

pub none_twice : IsDistinct mac_eq []
unfolding IsDistinct
none_twice = tt
