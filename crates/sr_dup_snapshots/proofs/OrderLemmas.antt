-- Sources in the order of their addresses.
use Rattle.std.proofs.Common.{◌≡◌, Bool, true, false, cond, ◌||◌, List, [], ◌∷◌, ◌++◌, length, Option, None, Some, is_some, refl, sym, ap, ◌∙◌, subst}
use Rattle.std.specs.Prelude.{IsPermutation}
use Rattle.std.specs.List.{list_any, dedup, IsDistinct, AllByRecursion}
use Rattle.std.specs.List.Sorted.{IsSorted, IsStrictlySortedBy}
use Rattle.std.specs.Map.{lookup, keys_of}
use Rattle.std.specs.Bool.{one_answer}
use Rattle.std.specs.Cmp.Lexicographic.{pointwise_decides}
use Rattle.std.specs.Ordering.{eq_by_cmp, is_eq, ordering_reverse}
use Rattle.std.specs.declared.cmp.Ordering.{Ordering}
use Rattle.std.specs.declared.cmp.Ordering.TheVariants.{Less, Equal, Greater}
use Rattle.std.specs.Cmp.{IsTotalOrder}
use Rattle.std.specs.Str.{bytes_eq}
use Rattle.std.proofs.lemmas.Bool.Decides.{Decides-eqb}
use Rattle.std.proofs.lemmas.Cmp.{nat_list_cmp_total, on_total}
use Rattle.std.proofs.lemmas.List.Kept.{IsStrictlySortedBy-dedup}
use Rattle.std.proofs.lemmas.List.Elements.{recursion_from_All}
use Rattle.std.proofs.lemmas.List.Sorted.{All-permutation, list_any-IsPermutation, length_permutation}
use Rattle.std.proofs.lemmas.Map.Entries.{length-keys_of}
use Rattle.std.proofs.lemmas.Map.Keys.{IsDistinct-IsPermutation}
use Rattle.std.proofs.lemmas.Map.Made.{is_some-lookup, All-is_member}
use Rattle.std.proofs.lemmas.Map.Text.{is_eq-slice_cmp}
use Rattle.std.proofs.lemmas.Slice.Eq.{bytes_eq-Decides}
use Rattle.sr_frame.specs.declared.fields.Mac.{Mac}
use Rattle.sr_frame.specs.Addresses.{mac_eq}
use Rattle.sr_frame.specs.AddressLemmas.{mac_same, mac_symm, mac_refl, mac_laws}
use Rattle.sr_dup_table.specs.Sources.{Remembered, Sources}
use Rattle.sr_dup_table.specs.Same.{AreSame}
use Rattle.sr_dup_snapshots.specs.Snapshots.{mac_order}
use Rattle.sr_dup_snapshots.specs.Ordered.{source_at, sources_at}

-- two addresses are one exactly where neither is before the other
pub ties : (x y : Mac) → mac_eq x y ≡ eq_by_cmp mac_order x y
ties x y =
    one_answer (mac_eq x y) (bytes_eq x.0 y.0) (pointwise_decides Decides-eqb x.0 y.0) (bytes_eq-Decides x.0 y.0)
    ∙ sym (is_eq-slice_cmp x.0 y.0)

-- nothing goes from distinct addresses
dedup-distinct : (macs : List Mac) → IsDistinct mac_eq macs → dedup mac_eq macs ≡ macs
unfolding IsDistinct
dedup-distinct [] unique = refl
dedup-distinct (x ∷ []) unique = refl
dedup-distinct (x ∷ y ∷ macs) unique = ap (λ b. cond b (dedup mac_eq (x ∷ macs)) (x ∷ dedup mac_eq (y ∷ macs))) (mac_symm y x ∙ unique.0.0) ∙ ap (λ l. x ∷ l) (dedup-distinct (y ∷ macs) unique.1)

pub strictly-sorted : (macs : List Mac) → IsDistinct mac_eq macs → IsSorted mac_order macs → IsStrictlySortedBy mac_order macs
strictly-sorted macs unique up =
    subst (IsStrictlySortedBy mac_order) (dedup-distinct macs unique) (IsStrictlySortedBy-dedup (on_total (λ (m : Mac). m.0) nat_list_cmp_total) ties macs up)

pub still-distinct : (ks macs : List Mac) → IsPermutation ks macs → IsDistinct mac_eq ks → IsDistinct mac_eq macs
still-distinct ks macs moved unique = IsDistinct-IsPermutation mac_eq mac_symm ks macs moved unique

-- all addresses of the sources have one
found-all : (s : Sources) (macs : List Mac) → IsPermutation (keys_of s) macs → AllByRecursion (λ m. list_any (mac_eq m) (keys_of s) ≡ true) macs
found-all s macs moved = recursion_from_All (λ m. list_any (mac_eq m) (keys_of s) ≡ true) macs (All-permutation (λ m. list_any (mac_eq m) (keys_of s) ≡ true) (keys_of s) macs moved (All-is_member mac_laws (keys_of s)))

keys-at : (s : Sources) (macs : List Mac) → AllByRecursion (λ m. list_any (mac_eq m) (keys_of s) ≡ true) macs → keys_of (sources_at s macs) ≡ macs
keys-at s [] all = refl
keys-at s (m ∷ macs) all = by (lookup (mac_eq m) s) (is_some-lookup (mac_eq m) s ∙ all.0) (keys-at s macs all.1)
  where
    by : (o : Option Remembered) → is_some o ≡ true → keys_of (sources_at s macs) ≡ macs → keys_of (source_at m o ++ sources_at s macs) ≡ m ∷ macs
    by None some ih = cc
    by (Some h) some ih = ap (λ l. m ∷ l) ih

pub keys-of-all : (s : Sources) (macs : List Mac) → IsPermutation (keys_of s) macs → keys_of (sources_at s macs) ≡ macs
keys-of-all s macs moved = keys-at s macs (found-all s macs moved)

pub count-of-all : (s : Sources) (macs : List Mac) → IsPermutation (keys_of s) macs → length (sources_at s macs) ≡ length s
count-of-all s macs moved =
    sym (length-keys_of (sources_at s macs)) ∙ ap length (keys-of-all s macs moved) ∙ length_permutation (keys_of s) macs moved ∙ length-keys_of s

-- what stands at an address is what stood there
at-macs : (s : Sources) (q : Mac) (macs : List Mac) → lookup (mac_eq q) (sources_at s macs) ≡ cond (list_any (mac_eq q) macs) (lookup (mac_eq q) s) None
at-macs s q [] = refl
at-macs s q (m ∷ macs) = by (mac_eq q m) refl (lookup (mac_eq m) s) refl (at-macs s q macs)
  where
    none : (b : Bool) → lookup (mac_eq q) s ≡ None → cond b (lookup (mac_eq q) s) None ≡ lookup (mac_eq q) s
    none true e = refl
    none false e = sym e

    by : (b : Bool) → mac_eq q m ≡ b → (o : Option Remembered) → lookup (mac_eq m) s ≡ o
        → lookup (mac_eq q) (sources_at s macs) ≡ cond (list_any (mac_eq q) macs) (lookup (mac_eq q) s) None
        → lookup (mac_eq q) (source_at m o ++ sources_at s macs) ≡ cond (b || list_any (mac_eq q) macs) (lookup (mac_eq q) s) None
    by true p None at ih = ih ∙ none (list_any (mac_eq q) macs) (ap (λ k. lookup (mac_eq k) s) (mac_same q m p) ∙ at)
    by true p (Some h) at ih =
        ap (λ b. cond b (Some h) (lookup (mac_eq q) (sources_at s macs))) p ∙ sym (ap (λ k. lookup (mac_eq k) s) (mac_same q m p) ∙ at)
    by false p None at ih = ih
    by false p (Some h) at ih = ap (λ b. cond b (Some h) (lookup (mac_eq q) (sources_at s macs))) p ∙ ih

pub same-at : (s : Sources) (macs : List Mac) → IsPermutation (keys_of s) macs → AreSame s (sources_at s macs)
same-at s macs moved q =
    sym (at-macs s q macs
    ∙ ap (λ b. cond b (lookup (mac_eq q) s) None) (sym (list_any-IsPermutation (mac_eq q) (keys_of s) macs moved) ∙ sym (is_some-lookup (mac_eq q) s))
    ∙ there (lookup (mac_eq q) s))
  where
    there : (o : Option Remembered) → cond (is_some o) o None ≡ o
    there None = refl
    there (Some h) = refl

pub mac_total : IsTotalOrder mac_order
mac_total = on_total (λ (m : Mac). m.0) nat_list_cmp_total

-- an address before all others is none of them
absent-below : (q : Mac) (s : Sources) → AllByRecursion (λ y. mac_order q y ≡ Less) (keys_of s) → lookup (mac_eq q) s ≡ None
absent-below q [] below = refl
absent-below q (e ∷ s) below =
    ap (λ b. cond b (Some e.1) (lookup (mac_eq q) s)) (ties q e.0 ∙ ap is_eq below.0) ∙ absent-below q s below.1

below-all : (q m : Mac) (ks : List Mac) → mac_order q m ≡ Less → AllByRecursion (λ y. mac_order m y ≡ Less) ks → AllByRecursion (λ y. mac_order q y ≡ Less) ks
below-all q m [] less below = tt
below-all q m (k ∷ ks) less below = (mac_total.trans q m k less below.0, below-all q m ks less below.1)

here : (e : Mac × Remembered) (s : Sources) → lookup (mac_eq e.0) (e ∷ s) ≡ Some e.1
here e s = ap (λ b. cond b (Some e.1) (lookup (mac_eq e.0) s)) (mac_refl e.0)

-- sources that are the same, both in ascending order, are one list
pub same-order : (s t : Sources) → IsStrictlySortedBy mac_order (keys_of s) → IsStrictlySortedBy mac_order (keys_of t) → AreSame s t → s ≡ t
unfolding IsStrictlySortedBy
same-order [] [] up rise same = refl
same-order [] (f ∷ t) up rise same = let bad : None ≡ Some f.1 = same f.0 ∙ here f t in cc
same-order (e ∷ s) [] up rise same = let bad : Some e.1 ≡ None = sym (here e s) ∙ same e.0 in cc
same-order (e ∷ s) (f ∷ t) up rise same = λ i. (first.0 i, first.1 i) ∷ same-order s t up.1 rise.1 rest i
  where
    one : (o : Ordering) → mac_order e.0 f.0 ≡ o → mac_eq e.0 f.0 ≡ true
    one Less p =
        let gone : lookup (mac_eq e.0) (f ∷ t) ≡ None = absent-below e.0 (f ∷ t) (p, below-all e.0 f.0 (keys_of t) p rise.0) in
        let bad : Some e.1 ≡ None = sym (here e s) ∙ same e.0 ∙ gone in cc
    one Equal p = ties e.0 f.0 ∙ ap is_eq p
    one Greater p =
        let q : mac_order f.0 e.0 ≡ Less = mac_total.antisymm f.0 e.0 ∙ ap ordering_reverse p in
        let gone : lookup (mac_eq f.0) (e ∷ s) ≡ None = absent-below f.0 (e ∷ s) (q, below-all f.0 e.0 (keys_of s) q up.0) in
        let bad : Some f.1 ≡ None = sym (here f t) ∙ sym (same f.0) ∙ gone in cc

    first : (e.0 ≡ f.0) × (e.1 ≡ f.1)
    first =
        let address : e.0 ≡ f.0 = mac_same e.0 f.0 (one (mac_order e.0 f.0) refl) in
        let both : Some e.1 ≡ Some f.1 = sym (here e s) ∙ same e.0 ∙ ap (λ m. lookup (mac_eq m) (f ∷ t)) address ∙ here f t in
        (address, cc)

    rest : AreSame s t
    rest q = by (mac_eq q e.0) refl
      where
        by : (b : Bool) → mac_eq q e.0 ≡ b → lookup (mac_eq q) s ≡ lookup (mac_eq q) t
        by true p =
            let at : q ≡ e.0 = mac_same q e.0 p in
            ap (λ m. lookup (mac_eq m) s) at ∙ absent-below e.0 s up.0
            ∙ sym (ap (λ m. lookup (mac_eq m) t) (at ∙ first.0) ∙ absent-below f.0 t rise.0)
        by false p =
            sym (ap (λ b. cond b (Some e.1) (lookup (mac_eq q) s)) p)
            ∙ same q
            ∙ ap (λ b. cond b (Some f.1) (lookup (mac_eq q) t)) (ap (mac_eq q) (sym first.0) ∙ p)
