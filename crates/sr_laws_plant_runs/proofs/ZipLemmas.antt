-- Two lists, one for one; and cut links.
use Rattle.std.proofs.Common.{◌≡◌, ◌≢◌, ◌⊎◌, inl, inr, ℕ, zero, suc, ◌<◌, ◌==◌, ◌&&◌, ◌||◌, not, Bool, true, false, List, [], ◌∷◌, ◌++◌, length, Some, slice_get, slice_set, slice_index_or, refl, sym, ap, ◌∙◌, subst, arith}
use Rattle.std.specs.List.{filter, remove, list_any}
use Rattle.std.proofs.lemmas.Bool.{cases_Bool, cases_eq, eq-eqb, ne_eqb}
use Rattle.sr_laws_plant_runs.specs.Histories.{Zip}

module _ {X Y : Type 0} (R : X → Y → Type 0) where
  pub zip_append : (xs : List X) (ys : List Y) (vs : List X) (ws : List Y) → Zip R xs ys → Zip R vs ws → Zip R (xs ++ vs) (ys ++ ws)
  zip_append [] [] vs ws a b = b
  zip_append [] (y ∷ ys) vs ws a b = absurd a
  zip_append (x ∷ xs) [] vs ws a b = absurd a
  zip_append (x ∷ xs) (y ∷ ys) vs ws a b = (a.0, zip_append xs ys vs ws a.1 b)

  pub zip_filter : (p : X → Bool) (q : Y → Bool) → ((x : X) (y : Y) → R x y → p x ≡ q y) → (xs : List X) (ys : List Y) → Zip R xs ys → Zip R (filter p xs) (filter q ys)
  zip_filter p q same [] [] a = tt
  zip_filter p q same [] (y ∷ ys) a = absurd a
  zip_filter p q same (x ∷ xs) [] a = absurd a
  zip_filter p q same (x ∷ xs) (y ∷ ys) a =
      let rest = zip_filter p q same xs ys a.1 in
      elim (cases_Bool (p x)) [
        | inl is ↦ let too : q y ≡ true = sym (same x y a.0) ∙ is in rw (is, too) (a.0, rest)
        | inr not_so ↦ let neither : q y ≡ false = sym (same x y a.0) ∙ not_so in rw (not_so, neither) rest
      ]

  pub zip_none : (ys : List Y) → Zip R [] ys → ys ≡ []
  zip_none [] a = refl
  zip_none (y ∷ ys) a = absurd a

  -- what stands beside the one at a place
  pub record IsBeside (xs : List X) (place : ℕ) (x : X) (ys : List Y) : Type 0 where
    pub before : List Y
    pub here : Y
    pub behind : List Y
    pub index : length before ≡ place
    pub whole : ys ≡ before ++ here ∷ behind
    pub related : R x here
    pub rest : Zip R (remove xs place) (before ++ behind)

  pub zip_at : (xs : List X) (place : ℕ) (x : X) (ys : List Y) → Zip R xs ys → slice_get xs place ≡ Some x → IsBeside xs place x ys
  zip_at [] place x ys a at = absurd cc
  zip_at (v ∷ xs) place x [] a at = absurd a
  zip_at (v ∷ xs) zero x (y ∷ ys) a at =
      let same : v ≡ x = cc in
      record { before = []; here = y; behind = ys; index = refl; whole = refl; related = subst (λ z. R z y) same a.0; rest = a.1 }
  zip_at (v ∷ xs) (suc place) x (y ∷ ys) a at =
      let b = zip_at xs place x ys a.1 at in
      record { before = y ∷ b.before; here = b.here; behind = b.behind; index = ap suc b.index; whole = ap (λ zs. y ∷ zs) b.whole; related = b.related; rest = (a.0, b.rest) }

-- one test or the other
any_or : {X : Type 0} (f g : X → Bool) (xs : List X) → list_any (λ x. f x || g x) xs ≡ (list_any f xs || list_any g xs)
any_or f g [] = refl
any_or f g (x ∷ xs) = ap (λ b. (f x || g x) || b) (any_or f g xs) ∙ swapped (f x) (g x) (list_any f xs) (list_any g xs)
  where
    swapped : (a b c d : Bool) → ((a || b) || (c || d)) ≡ ((a || c) || (b || d))
    swapped true b c d = refl
    swapped false true true d = refl
    swapped false true false d = refl
    swapped false false c d = refl

any_none : {X : Type 0} (xs : List X) → list_any (λ x. false) xs ≡ false
any_none [] = refl
any_none (x ∷ xs) = any_none xs

pub turned : (a b : ℕ) → (a == b) ≡ (b == a)
turned a b = elim (cases_eq a b) [
  | inl e ↦ eq-eqb a b e ∙ sym (eq-eqb b a (sym e))
  | inr ne ↦ ne_eqb a b ne ∙ sym (ne_eqb b a (λ e. ne (sym e)))
]

any_turned : (link : ℕ) (cuts : List ℕ) → list_any (λ l. l == link) cuts ≡ list_any (λ l. link == l) cuts
any_turned link [] = refl
any_turned link (c ∷ cuts) = ap (λ b. b || list_any (λ l. l == link) cuts) (turned c link) ∙ ap (λ b. (link == c) || b) (any_turned link cuts)

-- the links that are cut, by a mark for each or by a list
abbrev pub SameCuts : List Bool → List ℕ → Type 0
SameCuts cut cuts = (link : ℕ) → slice_index_or cut link false ≡ list_any (λ l. l == link) cuts

pub stopped_same : (cut : List Bool) (cuts : List ℕ) → SameCuts cut cuts → (links : List ℕ) →
    list_any (λ link. slice_index_or cut link false) links ≡ list_any (λ link. list_any (λ l. l == link) links) cuts
stopped_same cut cuts same [] = sym (any_none cuts)
stopped_same cut cuts same (l ∷ links) =
    ap (λ b. b || list_any (λ link. slice_index_or cut link false) links) (same l ∙ any_turned l cuts)
    ∙ ap (λ b. list_any (λ link. l == link) cuts || b) (stopped_same cut cuts same links)
    ∙ sym (any_or (λ link. l == link) (λ link. list_any (λ k. k == link) links) cuts)

or_set_same : {X : Type 0} (xs : List X) (i : ℕ) (y d : X) → i < length xs → slice_index_or (slice_set xs i y) i d ≡ y
or_set_same [] i y d within = absurd (omega arith)
or_set_same (x ∷ xs) zero y d within = refl
or_set_same (x ∷ xs) (suc i) y d within = or_set_same xs i y d (omega (arith, within))

or_set_other : {X : Type 0} (xs : List X) (i k : ℕ) (y d : X) → k ≢ i → slice_index_or (slice_set xs i y) k d ≡ slice_index_or xs k d
or_set_other [] i k y d other = refl
or_set_other (x ∷ xs) zero zero y d other = absurd (other refl)
or_set_other (x ∷ xs) zero (suc k) y d other = refl
or_set_other (x ∷ xs) (suc i) zero y d other = refl
or_set_other (x ∷ xs) (suc i) (suc k) y d other = or_set_other xs i k y d (λ e. other (ap suc e))

pub cut_same : (cut : List Bool) (cuts : List ℕ) (link : ℕ) → SameCuts cut cuts → link < length cut → SameCuts (slice_set cut link true) (link ∷ cuts)
cut_same cut cuts link same within k = elim (cases_eq k link) [
  | inl e ↦ ap (λ m. slice_index_or (slice_set cut link true) m false) e ∙ or_set_same cut link true false within ∙ sym (ap (λ b. b || list_any (λ l. l == k) cuts) (eq-eqb link k (sym e)))
  | inr ne ↦ or_set_other cut link k true false ne ∙ same k ∙ sym (ap (λ b. b || list_any (λ l. l == k) cuts) (ne_eqb link k (λ e. ne (sym e))))
]

-- without this link
any_without : (cuts : List ℕ) (link k : ℕ) → list_any (λ l. l == k) (filter (λ l. not (l == link)) cuts) ≡ (not (k == link) && list_any (λ l. l == k) cuts)
any_without [] link k = and_none (not (k == link))
  where
    and_none : (b : Bool) → false ≡ (b && false)
    and_none true = refl
    and_none false = refl
any_without (c ∷ cuts) link k =
    let rest = any_without cuts link k in
    elim (cases_eq c link) [
      | inl e ↦ (let is : (c == link) ≡ true = eq-eqb c link e in rw is (rest ∙ gone e))
      | inr ne ↦ (let is : (c == link) ≡ false = ne_eqb c link ne in rw is (ap (λ b. (c == k) || b) rest ∙ kept ne (cases_eq c k)))
    ]
  where
    gone : c ≡ link → (not (k == link) && list_any (λ l. l == k) cuts) ≡ (not (k == link) && ((c == k) || list_any (λ l. l == k) cuts))
    gone e = elim (cases_eq k link) [
      | inl same ↦ (let is : (k == link) ≡ true = eq-eqb k link same in rw is refl)
      | inr other ↦ (let is : (c == k) ≡ false = ne_eqb c k (λ f. other (sym f ∙ e)) in rw is refl)
    ]

    kept : c ≢ link → (c ≡ k) ⊎ (c ≢ k) → ((c == k) || (not (k == link) && list_any (λ l. l == k) cuts)) ≡ (not (k == link) && ((c == k) || list_any (λ l. l == k) cuts))
    kept ne (inl e) = (let a : (c == k) ≡ true = eq-eqb c k e in let b : (k == link) ≡ false = ne_eqb k link (λ f. ne (e ∙ f)) in rw (a, b) refl)
    kept ne (inr other) = (let a : (c == k) ≡ false = ne_eqb c k other in rw a refl)

pub mend_same : (cut : List Bool) (cuts : List ℕ) (link : ℕ) → SameCuts cut cuts → link < length cut → SameCuts (slice_set cut link false) (filter (λ l. not (l == link)) cuts)
mend_same cut cuts link same within k = elim (cases_eq k link) [
  | inl e ↦ ap (λ m. slice_index_or (slice_set cut link false) m false) e ∙ or_set_same cut link false false within ∙ sym (any_without cuts link k ∙ ap (λ b. not b && list_any (λ l. l == k) cuts) (eq-eqb k link e))
  | inr ne ↦ or_set_other cut link k false false ne ∙ same k ∙ sym (any_without cuts link k ∙ ap (λ b. not b && list_any (λ l. l == k) cuts) (ne_eqb k link ne))
]
