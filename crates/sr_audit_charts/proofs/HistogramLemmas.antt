-- The counts of some numbers, with one number more.
use Rattle.std.proofs.Common.{◌≡◌, ℕ, ◌+◌, ◌<◌, List, ◌∷◌, length, cond, min, arith, refl, sym, ap, ◌∙◌, subst, inl, inr}
use Rattle.std.specs.Prelude.{count_by, nat_eq, slice_index_or, slice_set}
use Rattle.std.proofs.lemmas.Bool.{eq-eqb}
use Rattle.std.proofs.lemmas.Bool.Decides.{eqb_tells}
use Rattle.std.proofs.lemmas.List.{get_or-set_same, get_or-set_other}
use Rattle.std.proofs.lemmas.List.Sums.{sum_by-cons}

count-cons : (k x : ℕ) (xs : List ℕ) → count_by (nat_eq k) (x ∷ xs) ≡ cond (nat_eq k x) 1 0 + count_by (nat_eq k) xs
count-cons k x xs = sum_by-cons (λ y. cond (nat_eq k y) 1 0) x xs

-- a count that stays at its greatest value, with one more
bumped : (got new old more count : ℕ) → got ≡ new → new ≡ min (old + 1) 4294967295 → more ≡ 1 + count → old ≡ min count 4294967295
    → got ≡ min more 4294967295
bumped got new old more count is put one was = omega arith

-- a count with nothing more
skipped : (more count : ℕ) → more ≡ 0 + count → more ≡ count
skipped more count none = omega arith

pub counted : (old : List ℕ) (xs : List ℕ) (at n k : ℕ) → at < length old → n ≡ min (slice_index_or old at 0 + 1) 4294967295
    → ((j : ℕ) → j < length old → slice_index_or old j 0 ≡ min (count_by (nat_eq j) xs) 4294967295)
    → k < length old → slice_index_or (slice_set old at n) k 0 ≡ min (count_by (nat_eq k) (at ∷ xs)) 4294967295
counted old xs at n k within put all small =
    elim (eqb_tells k at) [
      | inl same ↦
          subst (λ j. slice_index_or (slice_set old at n) j 0 ≡ min (count_by (nat_eq j) (at ∷ xs)) 4294967295) (sym same.1)
          (bumped (slice_index_or (slice_set old at n) at 0) n (slice_index_or old at 0) (count_by (nat_eq at) (at ∷ xs)) (count_by (nat_eq at) xs)
          (get_or-set_same old at n 0 within) put
          (count-cons at at xs ∙ ap (λ b. cond b 1 0 + count_by (nat_eq at) xs) (eq-eqb at at refl)) (all at within))
      | inr other ↦
          get_or-set_other old at k n 0 other.1 ∙ all k small
          ∙ ap (λ c. min c 4294967295)
          (sym (skipped (count_by (nat_eq k) (at ∷ xs)) (count_by (nat_eq k) xs)
          (count-cons k at xs ∙ ap (λ b. cond b 1 0 + count_by (nat_eq k) xs) other.0)))
    ]
