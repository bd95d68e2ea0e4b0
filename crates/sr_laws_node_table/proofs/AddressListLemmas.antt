-- Lists of addresses, each once, and entries made of them.
use Rattle.std.proofs.Common.{◌≡◌, suc, Bool, true, false, cond, not, ◌&&◌, ◌||◌, List, [], ◌∷◌, ◌++◌, length, filter, refl, sym, ap, ◌∙◌, subst}
use Rattle.std.specs.List.{list_any, IsDistinct, AllByRecursion}
use Rattle.std.proofs.lemmas.Map.Keys.{IsDistinct-push}
use Rattle.sr_frame.specs.declared.fields.Mac.{Mac}
use Rattle.sr_frame.specs.Addresses.{mac_eq}
use Rattle.sr_frame.specs.AddressLemmas.{mac_same, mac_refl, mac_symm, mac_laws}

-- this address is one of these
abbrev pub has : List Mac → Mac → Bool
has ks m = list_any (mac_eq m) ks

-- a filter under another
pub filter-filter : {X : Type 0} (p q : X → Bool) (xs : List X) → filter p (filter q xs) ≡ filter (λ x. q x && p x) xs
filter-filter p q [] = refl
filter-filter {X} p q (x ∷ xs) = by (q x) (filter-filter p q xs)
  where
    by : (b : Bool) → filter p (filter q xs) ≡ filter (λ y. q y && p y) xs
        → filter p (cond b (x ∷ filter q xs) (filter q xs)) ≡ cond (b && p x) (x ∷ filter (λ y. q y && p y) xs) (filter (λ y. q y && p y) xs)
    by true ih = ap (λ ys. cond (p x) (x ∷ ys) ys) ih
    by false ih = ih

-- tests that agree at all elements
pub filter-agree_within : {X : Type 0} (p q : X → Bool) (xs : List X) → AllByRecursion (λ x. p x ≡ q x) xs → filter p xs ≡ filter q xs
filter-agree_within p q [] h = refl
filter-agree_within p q (x ∷ xs) h = ap (λ b. cond b (x ∷ filter p xs) (filter p xs)) h.0 ∙ ap (λ ys. cond (q x) (x ∷ ys) ys) (filter-agree_within p q xs h.1)

-- what passes a test
pub all_pass : {X : Type 0} (p : X → Bool) (xs : List X) → AllByRecursion (λ x. p x ≡ true) (filter p xs)
all_pass p [] = tt
all_pass {X} p (x ∷ xs) = by (p x) refl (all_pass p xs)
  where
    by : (b : Bool) → p x ≡ b → AllByRecursion (λ y. p y ≡ true) (filter p xs) → AllByRecursion (λ y. p y ≡ true) (cond b (x ∷ filter p xs) (filter p xs))
    by true h ih = (h, ih)
    by false h ih = ih

pub all_weaker : {X : Type 0} (P Q : X → Type 0) → ((x : X) → P x → Q x) → (xs : List X) → AllByRecursion P xs → AllByRecursion Q xs
all_weaker P Q w [] h = tt
all_weaker P Q w (x ∷ xs) h = (w x h.0, all_weaker P Q w xs h.1)

-- which addresses are in a list
pub has-append : (m : Mac) (ks js : List Mac) → has (ks ++ js) m ≡ (has ks m || has js m)
has-append m [] js = refl
has-append m (k ∷ ks) js = by (mac_eq m k) (has-append m ks js)
  where
    by : (b : Bool) → has (ks ++ js) m ≡ (has ks m || has js m) → (b || has (ks ++ js) m) ≡ ((b || has ks m) || has js m)
    by true ih = refl
    by false ih = ih

pub has-filter : (p : Mac → Bool) (m : Mac) (ks : List Mac) → has (filter p ks) m ≡ (p m && has ks m)
has-filter p m [] = by (p m)
  where
    by : (b : Bool) → false ≡ (b && false)
    by true = refl
    by false = refl
has-filter p m (k ∷ ks) = by (mac_eq m k) refl (p k) refl (has-filter p m ks)
  where
    both : (a c : Bool) → a ≡ (p m && c) → p m ≡ false → a ≡ (p m && (true || c))
    both a c e none = rw (e, none) refl

    by : (t : Bool) → mac_eq m k ≡ t → (b : Bool) → p k ≡ b → has (filter p ks) m ≡ (p m && has ks m)
        → has (cond b (k ∷ filter p ks) (filter p ks)) m ≡ (p m && (t || has ks m))
    by true t true b ih =
        let at : p m ≡ true = ap p (mac_same m k t) ∙ b in
        ap (λ x. x || has (filter p ks) m) t ∙ sym (ap (λ x. x && true) at)
    by true t false b ih =
        let at : p m ≡ false = ap p (mac_same m k t) ∙ b in
        both (has (filter p ks) m) (has ks m) ih at
    by false t true b ih = ap (λ x. x || has (filter p ks) m) t ∙ ih
    by false t false b ih = ih

all_apart : (m : Mac) (ks : List Mac) → has ks m ≡ false → AllByRecursion (λ k. mac_eq m k ≡ false) ks
all_apart m [] h = tt
all_apart m (k ∷ ks) h = by (mac_eq m k) refl h (all_apart m ks)
  where
    by : (b : Bool) → mac_eq m k ≡ b → (b || has ks m) ≡ false → (has ks m ≡ false → AllByRecursion (λ j. mac_eq m j ≡ false) ks)
        → (mac_eq m k ≡ false) × AllByRecursion (λ j. mac_eq m j ≡ false) ks
    by true e h ih = cc
    by false e h ih = (e, ih h)

pub apart_has : (m : Mac) (ks : List Mac) → AllByRecursion (λ k. mac_eq m k ≡ false) ks → has ks m ≡ false
apart_has m [] h = refl
apart_has m (k ∷ ks) h = ap (λ b. b || has ks m) h.0 ∙ apart_has m ks h.1

-- lists in which no address is twice
pub distinct_none : IsDistinct mac_eq []
unfolding IsDistinct
distinct_none = tt

pub distinct_filter : (p : Mac → Bool) (ks : List Mac) → IsDistinct mac_eq ks → IsDistinct mac_eq (filter p ks)
unfolding IsDistinct
distinct_filter p [] h = tt
distinct_filter p (k ∷ ks) h = by (p k) (distinct_filter p ks h.1)
  where
    still : has (filter p ks) k ≡ false
    still = has-filter p k ks ∙ ap (λ b. p k && b) (apart_has k ks h.0) ∙ none (p k)
      where
        none : (b : Bool) → (b && false) ≡ false
        none true = refl
        none false = refl

    by : (b : Bool) → IsDistinct mac_eq (filter p ks) → IsDistinct mac_eq (cond b (k ∷ filter p ks) (filter p ks))
    by true ih = (all_apart k (filter p ks) still, ih)
    by false ih = ih

pub distinct_push : (ks : List Mac) (m : Mac) → IsDistinct mac_eq ks → has ks m ≡ false → IsDistinct mac_eq (ks ++ m ∷ [])
distinct_push ks m h none = IsDistinct-push mac_laws ks m h none

-- without one of them a list is one shorter
abbrev pub without : Mac → List Mac → List Mac
without m ks = filter (λ k. not (mac_eq m k)) ks

pub without_none : (m : Mac) (ks : List Mac) → has ks m ≡ false → without m ks ≡ ks
without_none m [] h = refl
without_none m (k ∷ ks) h = by (mac_eq m k) h (without_none m ks)
  where
    by : (b : Bool) → (b || has ks m) ≡ false → (has ks m ≡ false → without m ks ≡ ks) → cond (not b) (k ∷ without m ks) (without m ks) ≡ k ∷ ks
    by true h ih = cc
    by false h ih = ap (λ l. k ∷ l) (ih h)

length-without : (m : Mac) (ks : List Mac) → IsDistinct mac_eq ks → has ks m ≡ true → length ks ≡ suc (length (without m ks))
unfolding IsDistinct
length-without m [] d h = cc
length-without m (k ∷ ks) d h = by (mac_eq m k) refl h (length-without m ks d.1)
  where
    by : (b : Bool) → mac_eq m k ≡ b → (b || has ks m) ≡ true → (has ks m ≡ true → length ks ≡ suc (length (without m ks)))
        → suc (length ks) ≡ suc (length (cond (not b) (k ∷ without m ks) (without m ks)))
    by true e h ih =
        let none : has ks m ≡ false = apart_has m ks (subst (λ x. AllByRecursion (λ j. mac_eq x j ≡ false) ks) (sym (mac_same m k e)) d.0) in
        ap (λ l. suc (length l)) (sym (without_none m ks none))
    by false e h ih = ap suc (ih h)

-- two such lists that have the same addresses are equally long
pub same_length : (ks js : List Mac) → IsDistinct mac_eq ks → IsDistinct mac_eq js → ((m : Mac) → has ks m ≡ has js m) → length ks ≡ length js
unfolding IsDistinct
same_length [] [] dk dj same = refl
same_length [] (j ∷ js) dk dj same = let bad : false ≡ true = same j ∙ ap (λ b. b || has js j) (mac_refl j) in cc
same_length (k ∷ ks) js dk dj same =
    let there : has js k ≡ true = sym (same k) ∙ ap (λ b. b || has ks k) (mac_refl k) in
    ap suc (same_length ks (without k js) dk.1 (distinct_filter (λ x. not (mac_eq k x)) js dj) rest) ∙ sym (length-without k js dj there)
  where
    first : has ks k ≡ false
    first = apart_has k ks dk.0

    rest : (m : Mac) → has ks m ≡ has (without k js) m
    rest m = by (mac_eq k m) refl ∙ sym (has-filter (λ x. not (mac_eq k x)) m js)
      where
        by : (b : Bool) → mac_eq k m ≡ b → has ks m ≡ (not b && has js m)
        by true e = ap (has ks) (sym (mac_same k m e)) ∙ first
        by false e = ap (λ b. b || has ks m) (sym (mac_symm m k ∙ e)) ∙ same m
