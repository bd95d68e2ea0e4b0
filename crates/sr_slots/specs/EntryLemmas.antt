-- Entries by address: a look-up through a write, a new entry and a test of the values.
use Rattle.std.proofs.Common.{◌≡◌, ℕ, ◌+◌, ◌≤◌, Bool, true, false, cond, ◌||◌, List, [], ◌∷◌, ◌++◌, length, filter}
use Rattle.std.proofs.Common.{Option, None, Some, is_some, refl, sym, ap, ◌∙◌, subst, arith}
use Rattle.std.specs.List.{list_any, IsDistinct, AllByRecursion}
use Rattle.std.specs.Map.{lookup, set_value, keys_of}
use Rattle.std.proofs.lemmas.Map.{lookup-set_value, keys-set_value}
use Rattle.sr_frame.specs.declared.fields.Mac.{Mac}
use Rattle.sr_frame.specs.Addresses.{mac_eq}
use Rattle.sr_frame.specs.AddressLemmas.{mac_same, mac_refl, mac_symm, mac_laws}
use Rattle.sr_slots.specs.Calls.{least_rank, passing}
use Rattle.sr_slots.specs.Places.{KeepsAllHeld}

-- a test as a number
abbrev pub one_if : Bool → ℕ
one_if b = cond b 1 0

-- a look-up that finds nothing passes the first entry over
pub head_differs : {X : Type 0} (b : Bool) (x : X) (r : Option X) → cond b (Some x) r ≡ None → (b ≡ false) × (r ≡ None)
head_differs true x r h = cc
head_differs false x r h = (refl, h)

-- where no place was held, and each address has a held place as before, none is held
pub none_held : (held : List Mac) → KeepsAllHeld [] held → held ≡ []
none_held [] keeps = refl
none_held (m ∷ held) keeps =
    let here : true ≡ list_any (mac_eq m) (m ∷ held) = sym (ap (λ b. b || list_any (mac_eq m) held) (mac_refl m)) in
    let bad : true ≡ false = here ∙ keeps m in
    cc

module _ {X : Type 0} where
  -- no least rank is above all numbers of 64 bits
  pub least_rank_le : (order : X → ℕ) (es : List (Mac × X)) → least_rank order es ≤ 18446744073709551615
  least_rank_le order [] = omega arith
  least_rank_le order (e ∷ es) = omega (arith, least_rank_le order es)

  -- a write at an address
  pub lookup-set : (m q : Mac) (w : X) (es : List (Mac × X)) → is_some (lookup (mac_eq m) es) ≡ true
      → lookup (mac_eq q) (set_value (mac_eq m) es w) ≡ cond (mac_eq m q) (Some w) (lookup (mac_eq q) es)
  lookup-set m q w es there = lookup-set_value mac_laws (mac_eq m) (mac_laws.congr m) q w es there

  pub distinct-set : (m : Mac) (w : X) (es : List (Mac × X)) → IsDistinct mac_eq (keys_of es)
      → IsDistinct mac_eq (keys_of (set_value (mac_eq m) es w))
  distinct-set m w es unique = subst (IsDistinct mac_eq) (sym (keys-set_value (mac_eq m) es w)) unique

  -- a new entry, which goes last
  pub lookup-push : (m q : Mac) (w : X) (es : List (Mac × X)) → lookup (mac_eq m) es ≡ None
      → lookup (mac_eq q) (es ++ (m, w) ∷ []) ≡ cond (mac_eq m q) (Some w) (lookup (mac_eq q) es)
  lookup-push m q w [] none = ap (λ b. cond b (Some w) None) (mac_symm q m)
  lookup-push m q w (e ∷ es) none = by (mac_eq q e.0) refl (lookup-push m q w es d.1)
    where
      d : (mac_eq m e.0 ≡ false) × (lookup (mac_eq m) es ≡ None)
      d = head_differs (mac_eq m e.0) e.1 (lookup (mac_eq m) es) none

      by : (t : Bool) → mac_eq q e.0 ≡ t → lookup (mac_eq q) (es ++ (m, w) ∷ []) ≡ cond (mac_eq m q) (Some w) (lookup (mac_eq q) es)
          → cond t (Some e.1) (lookup (mac_eq q) (es ++ (m, w) ∷ []))
          ≡ cond (mac_eq m q) (Some w) (cond t (Some e.1) (lookup (mac_eq q) es))
      by true t ih = sym (ap (λ b. cond b (Some w) (Some e.1)) (ap (mac_eq m) (mac_same q e.0 t) ∙ d.0))
      by false t ih = ih

  apart_push : (k m : Mac) (w : X) (es : List (Mac × X)) → mac_eq k m ≡ false → AllByRecursion (λ y. mac_eq k y ≡ false) (keys_of es)
      → AllByRecursion (λ y. mac_eq k y ≡ false) (keys_of (es ++ (m, w) ∷ []))
  apart_push k m w [] other h = (other, tt)
  apart_push k m w (e ∷ es) other h = (h.0, apart_push k m w es other h.1)

  pub distinct-push : (m : Mac) (w : X) (es : List (Mac × X)) → IsDistinct mac_eq (keys_of es) → lookup (mac_eq m) es ≡ None
      → IsDistinct mac_eq (keys_of (es ++ (m, w) ∷ []))
  unfolding IsDistinct
  distinct-push m w [] unique none = (tt, tt)
  distinct-push m w (e ∷ es) unique none =
      let d = head_differs (mac_eq m e.0) e.1 (lookup (mac_eq m) es) none in
      (apart_push e.0 m w es (mac_symm e.0 m ∙ d.0) unique.0, distinct-push m w es unique.1 d.1)

  module _ (test : X → Bool) where
    abbrev passes : Mac × X → Bool
    passes e = test e.1

    -- the entries whose value passes
    absent_after : (m : Mac) (es : List (Mac × X)) → AllByRecursion (λ y. mac_eq m y ≡ false) (keys_of es)
        → lookup (mac_eq m) (filter passes es) ≡ None
    absent_after m [] h = refl
    absent_after m (e ∷ es) h = by (test e.1) (absent_after m es h.1)
      where
        by : (b : Bool) → lookup (mac_eq m) (filter passes es) ≡ None
            → lookup (mac_eq m) (cond b (e ∷ filter passes es) (filter passes es)) ≡ None
        by true ih = ap (λ t. cond t (Some e.1) (lookup (mac_eq m) (filter passes es))) h.0 ∙ ih
        by false ih = ih

    pub lookup-passing : (q : Mac) (es : List (Mac × X)) → IsDistinct mac_eq (keys_of es)
        → lookup (mac_eq q) (filter passes es) ≡ passing test (lookup (mac_eq q) es)
    unfolding IsDistinct
    lookup-passing q [] unique = refl
    lookup-passing q (e ∷ es) unique = by (mac_eq q e.0) refl (test e.1) refl (lookup-passing q es unique.1)
      where
        by : (t : Bool) → mac_eq q e.0 ≡ t → (b : Bool) → test e.1 ≡ b
            → lookup (mac_eq q) (filter passes es) ≡ passing test (lookup (mac_eq q) es)
            → lookup (mac_eq q) (cond b (e ∷ filter passes es) (filter passes es)) ≡ passing test (cond t (Some e.1) (lookup (mac_eq q) es))
        by true t true p ih = ap (λ c. cond c (Some e.1) (lookup (mac_eq q) (filter passes es))) t
            ∙ sym (ap (λ c. cond c (Some e.1) None) p)
        by true t false p ih =
            absent_after q es (subst (λ k. AllByRecursion (λ y. mac_eq k y ≡ false) (keys_of es)) (sym (mac_same q e.0 t)) unique.0)
            ∙ sym (ap (λ c. cond c (Some e.1) None) p)
        by false t true p ih = ap (λ c. cond c (Some e.1) (lookup (mac_eq q) (filter passes es))) t ∙ ih
        by false t false p ih = ih

    apart_passing : (m : Mac) (es : List (Mac × X)) → AllByRecursion (λ y. mac_eq m y ≡ false) (keys_of es)
        → AllByRecursion (λ y. mac_eq m y ≡ false) (keys_of (filter passes es))
    apart_passing m [] h = tt
    apart_passing m (e ∷ es) h = by (test e.1) (apart_passing m es h.1)
      where
        by : (b : Bool) → AllByRecursion (λ y. mac_eq m y ≡ false) (keys_of (filter passes es))
            → AllByRecursion (λ y. mac_eq m y ≡ false) (keys_of (cond b (e ∷ filter passes es) (filter passes es)))
        by true ih = (h.0, ih)
        by false ih = ih

    pub distinct-passing : (es : List (Mac × X)) → IsDistinct mac_eq (keys_of es) → IsDistinct mac_eq (keys_of (filter passes es))
    unfolding IsDistinct
    distinct-passing [] unique = tt
    distinct-passing (e ∷ es) unique = by (test e.1) (distinct-passing es unique.1)
      where
        by : (b : Bool) → IsDistinct mac_eq (keys_of (filter passes es))
            → IsDistinct mac_eq (keys_of (cond b (e ∷ filter passes es) (filter passes es)))
        by true ih = (apart_passing e.0 es unique.0, ih)
        by false ih = ih

    -- how many pass, where one is written or comes last
    pub length-passing-set : (m : Mac) (was w : X) (es : List (Mac × X)) → lookup (mac_eq m) es ≡ Some was
        → length (filter passes (set_value (mac_eq m) es w)) + one_if (test was) ≡ length (filter passes es) + one_if (test w)
    length-passing-set m was w [] there = cc
    length-passing-set m was w (e ∷ es) there = by (mac_eq m e.0) there (length-passing-set m was w es)
      where
        head : (b : Bool) (x : Mac × X) (xs : List (Mac × X)) → length (cond b (x ∷ xs) xs) ≡ one_if b + length xs
        head true x xs = omega arith
        head false x xs = omega arith

        by : (t : Bool) → cond t (Some e.1) (lookup (mac_eq m) es) ≡ Some was
            → (lookup (mac_eq m) es ≡ Some was
            → length (filter passes (set_value (mac_eq m) es w)) + one_if (test was) ≡ length (filter passes es) + one_if (test w))
            → length (filter passes (cond t ((e.0, w) ∷ es) (e ∷ set_value (mac_eq m) es w))) + one_if (test was)
            ≡ length (cond (test e.1) (e ∷ filter passes es) (filter passes es)) + one_if (test w)
        by true h ih =
            let v : e.1 ≡ was = cc in
            let s : one_if (test e.1) ≡ one_if (test was) = ap (λ x. one_if (test x)) v in
            omega (arith, s, head (test w) (e.0, w) (filter passes es), head (test e.1) e (filter passes es))
        by false h ih = omega (
          arith,
          ih h,
          head (test e.1) e (filter passes (set_value (mac_eq m) es w)),
          head (test e.1) e (filter passes es),
        )

    pub length-passing-push : (m : Mac) (w : X) (es : List (Mac × X))
        → length (filter passes (es ++ (m, w) ∷ [])) ≡ length (filter passes es) + one_if (test w)
    length-passing-push m w [] = by (test w)
      where
        by : (b : Bool) → length {A = Mac × X} (cond b ((m, w) ∷ []) []) ≡ 0 + one_if b
        by true = refl
        by false = refl
    length-passing-push m w (e ∷ es) = by (test e.1) (length-passing-push m w es)
      where
        by : (b : Bool) → length (filter passes (es ++ (m, w) ∷ [])) ≡ length (filter passes es) + one_if (test w)
            → length (cond b (e ∷ filter passes (es ++ (m, w) ∷ [])) (filter passes (es ++ (m, w) ∷ [])))
            ≡ length (cond b (e ∷ filter passes es) (filter passes es)) + one_if (test w)
        by true ih = omega arith
        by false ih = ih
