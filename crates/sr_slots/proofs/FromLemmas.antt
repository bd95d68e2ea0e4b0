-- What the places from an index on show, through the map's calls.
use Rattle.std.proofs.Common.{◌≡◌, ℕ, zero, suc, ◌-◌, Bool, true, false, cond, List, [], ◌∷◌, ◌++◌, length, drop, Option, None, Some, is_some, refl, sym, ap, ◌∙◌, append-nil, arith}
use Rattle.std.specs.List.{slice_get}
use Rattle.std.specs.Map.{lookup, set_value}
use Rattle.std.specs.Prelude.{option_to_list, IfSome}
use Rattle.std.specs.Borrow.{MutBor}
use Rattle.std.specs.Fn.{Once, FnOnceReturnsAtMut}
use Rattle.std.proofs.lemmas.List.{drop_all, length-append}
use Rattle.sr_frame.specs.declared.fields.Mac.{Mac}
use Rattle.sr_frame.specs.Addresses.{mac_eq}
use Rattle.indexmap.specs.IndexMap.{insert_entry}
use Rattle.sr_slots.specs.declared.places.Slot.{Slot}
use Rattle.sr_slots.specs.Places.{entry_at, entries_of, entries_from, slot_of, IsLast}
use Rattle.sr_slots.proofs.PlaceLemmas.{value_in, entries-append, entries-set, entries-set_same, insert-there, insert-absent, item_at}

module _ {V : Type 0} where
  -- writing the value that is there
  pub from-set_same : (m : Mac) (r : Option V) (held : Bool) (es : List (Mac × Slot V)) (n : ℕ) → value_in (lookup (mac_eq m) es) ≡ r
      → entries_from n (set_value (mac_eq m) es (slot_of r held)) ≡ entries_from n es
  from-set_same m r held es zero h = entries-set_same m r held es h
  from-set_same m r held [] (suc n) h = refl
  from-set_same m r held (e ∷ es) (suc n) h = by (mac_eq m e.0) h (from-set_same m r held es n)
    where
      by : (t : Bool) → value_in (cond t (Some e.1) (lookup (mac_eq m) es)) ≡ r
          → (value_in (lookup (mac_eq m) es) ≡ r → entries_from n (set_value (mac_eq m) es (slot_of r held)) ≡ entries_from n es)
          → entries_from (suc n) (cond t ((e.0, slot_of r held) ∷ es) (e ∷ set_value (mac_eq m) es (slot_of r held))) ≡ entries_from n es
      by true v ih = refl
      by false v ih = ih v

  -- an empty place at the end
  pub from_last : (n : ℕ) (es : List (Mac × Slot V)) (e : Mac × Slot V) → entries_of (e ∷ []) ≡ [] → entries_from n (es ++ e ∷ []) ≡ entries_from n es
  from_last zero es e h = entries-append es (e ∷ []) ∙ ap (λ l. entries_of es ++ l) h ∙ append-nil (entries_of es)
  from_last (suc n) [] e h = ap entries_of (drop_all n [] (omega arith))
  from_last (suc n) (x ∷ es) e h = from_last n es e h

  -- what shows nothing shows nothing from an index on
  none_from_on : (n : ℕ) (es : List (Mac × Slot V)) → entries_of es ≡ [] → entries_of (drop n es) ≡ []
  none_from_on zero es h = h
  none_from_on (suc n) [] h = ap entries_of (drop_all (suc n) [] (omega arith))
  none_from_on (suc n) (e ∷ es) h = none_from_on n es (second (entry_at e.0 e.1.value) (entries_of es) h)
    where
      second : (xs ys : List (Mac × V)) → xs ++ ys ≡ [] → ys ≡ []
      second [] ys h = h
      second (x ∷ xs) ys h = cc

  -- any empty places at the end
  pub from_gap : (n : ℕ) (es gap : List (Mac × Slot V)) → entries_of gap ≡ [] → entries_from n (es ++ gap) ≡ entries_from n es
  from_gap zero es gap h = entries-append es gap ∙ ap (λ l. entries_of es ++ l) h ∙ append-nil (entries_of es)
  from_gap (suc n) [] gap h = none_from_on (suc n) gap h ∙ sym (ap entries_of (drop_all (suc n) [] (omega arith)))
  from_gap (suc n) (x ∷ es) gap h = from_gap n es gap h

  -- holding a place
  pub from-held : (m : Mac) (s w : Slot V) (es new : List (Mac × Slot V)) (n : ℕ) → lookup (mac_eq m) es ≡ Some s → w ≡ slot_of s.value true → new ≡ set_value (mac_eq m) es w → entries_from n new ≡ entries_from n es
  from-held m s w es new n there w_is is =
      ap (entries_from n) (is ∙ ap (set_value (mac_eq m) es) w_is) ∙ from-set_same m s.value true es n (ap value_in there)

  pub from-held_there : (m : Mac) (s w : Slot V) (es new : List (Mac × Slot V)) (n : ℕ) → lookup (mac_eq m) es ≡ Some s → w ≡ slot_of s.value true → new ≡ insert_entry mac_eq es m w → entries_from n new ≡ entries_from n es
  from-held_there m s w es new n there w_is is = from-held m s w es new n there w_is (is ∙ insert-there m s w es there)

  pub from-held_last : (m : Mac) (es new : List (Mac × Slot V)) (n : ℕ) → lookup (mac_eq m) es ≡ None → new ≡ insert_entry mac_eq es m (slot_of None true) → entries_from n new ≡ entries_from n es
  from-held_last m es new n absent is =
      ap (entries_from n) (is ∙ insert-absent m (slot_of None true) es absent) ∙ from_last n es (m, slot_of None true) refl

  -- a value that is changed stands before the end
  from-changed : (m : Mac) (w : V) (held : Bool) (es : List (Mac × Slot V)) (n : ℕ) → is_some (value_in (lookup (mac_eq m) es)) ≡ true
      → entries_from n es ≡ [] → entries_from n (set_value (mac_eq m) es (slot_of (Some w) held)) ≡ []
  from-changed m w held es zero some h = entries-set m w held es some ∙ ap (λ l. set_value (mac_eq m) l w) h
  from-changed m w held [] (suc n) some h = refl
  from-changed m w held (e ∷ es) (suc n) some h = by (mac_eq m e.0) some (λ s. from-changed m w held es n s h)
    where
      by : (t : Bool) → is_some (value_in (cond t (Some e.1) (lookup (mac_eq m) es))) ≡ true
          → (is_some (value_in (lookup (mac_eq m) es)) ≡ true → entries_from n (set_value (mac_eq m) es (slot_of (Some w) held)) ≡ [])
          → entries_from (suc n) (cond t ((e.0, slot_of (Some w) held) ∷ es) (e ∷ set_value (mac_eq m) es (slot_of (Some w) held))) ≡ []
      by true s ih = h
      by false s ih = ih s

  pub change_from : {F R : Type 0} (g : Once F (MutBor V × Unit {0}) (R × (MutBor V × Unit {0}))) (f : F) (m : Mac) (s left : Slot V) (es new : List (Mac × Slot V))
      → lookup (mac_eq m) es ≡ Some s → new ≡ set_value (mac_eq m) es left → (r : Option (R × Bool))
      → IfSome r (λ a. (was : V) × (is : V) × (s.value ≡ Some was) × (left ≡ slot_of (Some is) false) × FnOnceReturnsAtMut g f was a.0 is × (a.1 ≡ s.held))
      → IfSome r (λ a. (n : ℕ) → entries_from n es ≡ [] → entries_from n new ≡ [])
  change_from {F} {R} g f m s left es new there is r h = by r h
    where
      by : (r : Option (R × Bool))
          → IfSome r (λ a. (was : V) × (is : V) × (s.value ≡ Some was) × (left ≡ slot_of (Some is) false) × FnOnceReturnsAtMut g f was a.0 is × (a.1 ≡ s.held))
          → IfSome r (λ a. (n : ℕ) → entries_from n es ≡ [] → entries_from n new ≡ [])
      by None h = tt
      by (Some a) h = λ n empty.
          ap (entries_from n) (is ∙ ap (set_value (mac_eq m) es) h.3)
          ∙ from-changed m h.1 false es n (ap (λ o. is_some (value_in o)) there ∙ ap is_some h.2) empty

  -- an empty place that goes from the end
  pub from-popped : (o : Option (Mac × Slot V)) (es new : List (Mac × Slot V)) (n : ℕ) → es ≡ new ++ option_to_list o → IsLast (slot_of None true) es → entries_from n new ≡ entries_from n es
  from-popped None es new n is last = ap (entries_from n) (sym (append-nil new) ∙ sym is)
  from-popped (Some p) es new n is last =
      let at_end : length es - 1 ≡ length new = ap (λ l. length l - 1) is ∙ omega (arith, length-append new (p ∷ [])) in
      let at : slice_get es (length es - 1) ≡ Some p = (λ j. slice_get (is j) (at_end j)) ∙ item_at new [] p in
      let same : Some p ≡ Some (last.0, slot_of None true) = sym at ∙ last.1 in
      let p_is : p ≡ (last.0, slot_of None true) = cc in
      sym (ap (entries_from n) (is ∙ ap (λ q. new ++ q ∷ []) p_is) ∙ from_last n new (last.0, slot_of None true) refl)
