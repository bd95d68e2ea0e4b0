-- Entries that a function makes of addresses.
use Rattle.std.proofs.Common.{◌≡◌, suc, Bool, true, false, cond, ◌||◌, List, [], ◌∷◌, ◌++◌, length, map, filter, Option, None, Some, refl, sym, ap, ◌∙◌, subst}
use Rattle.std.specs.List.{cons_option, filter_map, flat_map, IsDistinct, AllByRecursion}
use Rattle.std.specs.Map.{lookup, set_value, keys_of}
use Rattle.sr_frame.specs.declared.fields.Mac.{Mac}
use Rattle.sr_frame.specs.Addresses.{mac_eq}
use Rattle.sr_frame.specs.AddressLemmas.{mac_same}
use Rattle.sr_laws_node_table.proofs.AddressListLemmas.{has, apart_has}

module _ {X : Type 0} where
  -- each address with what it has
  abbrev pub with_each : (Mac → X) → List Mac → List (Mac × X)
  with_each f ks = map (λ k. (k, f k)) ks

  pub keys-with_each : (f : Mac → X) (ks : List Mac) → keys_of (with_each f ks) ≡ ks
  keys-with_each f [] = refl
  keys-with_each f (k ∷ ks) = ap (λ l. k ∷ l) (keys-with_each f ks)

  pub firsts-with_each : (f : Mac → X) (ks : List Mac) → map (λ e. e.0) (with_each f ks) ≡ ks
  firsts-with_each f [] = refl
  firsts-with_each f (k ∷ ks) = ap (λ l. k ∷ l) (firsts-with_each f ks)

  pub length-with_each : (f : Mac → X) (ks : List Mac) → length (with_each f ks) ≡ length ks
  length-with_each f [] = refl
  length-with_each f (k ∷ ks) = ap suc (length-with_each f ks)

  pub lookup-with_each : (f : Mac → X) (m : Mac) (ks : List Mac) → lookup (mac_eq m) (with_each f ks) ≡ cond (has ks m) (Some (f m)) None
  lookup-with_each f m [] = refl
  lookup-with_each f m (k ∷ ks) = by (mac_eq m k) refl (lookup-with_each f m ks)
    where
      by : (b : Bool) → mac_eq m k ≡ b → lookup (mac_eq m) (with_each f ks) ≡ cond (has ks m) (Some (f m)) None
          → cond b (Some (f k)) (lookup (mac_eq m) (with_each f ks)) ≡ cond (b || has ks m) (Some (f m)) None
      by true e ih = ap (λ x. Some (f x)) (sym (mac_same m k e))
      by false e ih = ih

  -- functions that agree but at one address, which is not there
  pub with_each-other : (f g : Mac → X) (m : Mac) → ((k : Mac) → mac_eq m k ≡ false → f k ≡ g k) → (ks : List Mac) → has ks m ≡ false → with_each f ks ≡ with_each g ks
  with_each-other f g m agree [] none = refl
  with_each-other f g m agree (k ∷ ks) none = by (mac_eq m k) refl none (with_each-other f g m agree ks)
    where
      by : (b : Bool) → mac_eq m k ≡ b → (b || has ks m) ≡ false → (has ks m ≡ false → with_each f ks ≡ with_each g ks)
          → (k, f k) ∷ with_each f ks ≡ (k, g k) ∷ with_each g ks
      by true e none ih = cc
      by false e none ih = (λ j. (k, agree k e j) ∷ ih none j)

  -- a write at one of them
  pub set-with_each : (f g : Mac → X) (m : Mac) → ((k : Mac) → mac_eq m k ≡ false → f k ≡ g k) → (ks : List Mac) → IsDistinct mac_eq ks
      → set_value (mac_eq m) (with_each f ks) (g m) ≡ with_each g ks
  unfolding IsDistinct
  set-with_each f g m agree [] d = refl
  set-with_each f g m agree (k ∷ ks) d = by (mac_eq m k) refl (set-with_each f g m agree ks d.1)
    where
      by : (b : Bool) → mac_eq m k ≡ b → set_value (mac_eq m) (with_each f ks) (g m) ≡ with_each g ks
          → cond b ((k, g m) ∷ with_each f ks) ((k, f k) ∷ set_value (mac_eq m) (with_each f ks) (g m)) ≡ (k, g k) ∷ with_each g ks
      by true e ih =
          let none : has ks m ≡ false = apart_has m ks (subst (λ x. AllByRecursion (λ j. mac_eq x j ≡ false) ks) (sym (mac_same m k e)) d.0) in
          (λ j. (k, g (mac_same m k e j)) ∷ with_each-other f g m agree ks none j)
      by false e ih = (λ j. (k, agree k e j) ∷ ih j)

  -- the addresses whose value passes a test
  pub filter-with_each : (f : Mac → X) (test : X → Bool) (p : Mac → Bool) (ks : List Mac) → AllByRecursion (λ k. test (f k) ≡ p k) ks
      → filter (λ e. test e.1) (with_each f ks) ≡ with_each f (filter p ks)
  filter-with_each f test p [] h = refl
  filter-with_each f test p (k ∷ ks) h =
      ap (λ b. cond b ((k, f k) ∷ filter (λ e. test e.1) (with_each f ks)) (filter (λ e. test e.1) (with_each f ks))) h.0
      ∙ by (p k) (filter-with_each f test p ks h.1)
    where
      by : (b : Bool) → filter (λ e. test e.1) (with_each f ks) ≡ with_each f (filter p ks)
          → cond b ((k, f k) ∷ filter (λ e. test e.1) (with_each f ks)) (filter (λ e. test e.1) (with_each f ks)) ≡ with_each f (cond b (k ∷ filter p ks) (filter p ks))
      by true ih = ap (λ l. (k, f k) ∷ l) ih
      by false ih = ih

  -- how many pass a test of address and value
  pub filter-with_both : (f : Mac → X) (test : Mac × X → Bool) (p : Mac → Bool) (ks : List Mac) → AllByRecursion (λ k. test (k, f k) ≡ p k) ks
      → filter test (with_each f ks) ≡ with_each f (filter p ks)
  filter-with_both f test p [] h = refl
  filter-with_both f test p (k ∷ ks) h =
      ap (λ b. cond b ((k, f k) ∷ filter test (with_each f ks)) (filter test (with_each f ks))) h.0
      ∙ by (p k) (filter-with_both f test p ks h.1)
    where
      by : (b : Bool) → filter test (with_each f ks) ≡ with_each f (filter p ks)
          → cond b ((k, f k) ∷ filter test (with_each f ks)) (filter test (with_each f ks)) ≡ with_each f (cond b (k ∷ filter p ks) (filter p ks))
      by true ih = ap (λ l. (k, f k) ∷ l) ih
      by false ih = ih

  -- what is gathered of them, as one value or none each, and as a list each
  pub gathered-with_each : {Y : Type 0} (f : Mac → X) (o : Mac × X → Option Y) (l : Mac → List Y) (ks : List Mac)
      → AllByRecursion (λ k. (ys : List Y) → cons_option (o (k, f k)) ys ≡ l k ++ ys) ks → filter_map o (with_each f ks) ≡ flat_map l ks
  gathered-with_each f o l [] h = refl
  gathered-with_each f o l (k ∷ ks) h = h.0 (filter_map o (with_each f ks)) ∙ ap (λ ys. l k ++ ys) (gathered-with_each f o l ks h.1)

  -- the addresses of those that pass a test
  pub kept-with_each : (f : Mac → X) (o : Mac × X → Option Mac) (p : Mac → Bool) (ks : List Mac)
      → AllByRecursion (λ k. o (k, f k) ≡ cond (p k) (Some k) None) ks → filter_map o (with_each f ks) ≡ filter p ks
  kept-with_each f o p [] h = refl
  kept-with_each f o p (k ∷ ks) h = ap (λ x. cons_option x (filter_map o (with_each f ks))) h.0 ∙ by (p k) (kept-with_each f o p ks h.1)
    where
      by : (b : Bool) → filter_map o (with_each f ks) ≡ filter p ks → cons_option (cond b (Some k) None) (filter_map o (with_each f ks)) ≡ cond b (k ∷ filter p ks) (filter p ks)
      by true ih = ap (λ l. k ∷ l) ih
      by false ih = ih
