-- Lists: what is left of them, and equal elements.
use Rattle.std.proofs.Common.{◌≡◌, ℕ, zero, suc, ◌+◌, ◌<◌, Bool, List, [], ◌∷◌, ◌++◌, length, map, take, drop, replicate, get_or, refl, ap, sym, subst, append_assoc, add-one, arith}
use Rattle.std.specs.List.{filter}
use Rattle.std.proofs.Math.Seq.{drop-cons}
use Rattle.std.proofs.lemmas.List.Elements.{filter_more}

-- what is left from an element on
pub drop_at : {X Y : Type 0} (f : X → Y) (xs : List X) (i j : ℕ) (x : X) → j ≡ suc i → i < length xs → get_or xs i x ≡ x →
    drop i (map f xs) ≡ f x ∷ drop j (map f xs)
drop_at f [] i j x next within here = absurd (omega arith)
drop_at f (y ∷ ys) zero j x next within here = rw next (ap (λ z. f z ∷ map f ys) here)
drop_at f (y ∷ ys) (suc i) j x next within here = rw next (drop_at f ys i (suc i) x refl (omega arith) here)

-- one more of them
pub replicate_more : {X : Type 0} (n m : ℕ) (x : X) → m ≡ suc n → replicate n x ++ x ∷ [] ≡ replicate m x
replicate_more zero m x next = rw next refl
replicate_more (suc n) m x next = rw next (ap (λ xs. x ∷ xs) (replicate_more n (suc n) x refl))

-- one step of a sweep: the first of what is left is looked at, and goes last or goes
module _ {X : Type 0} (p : X → Bool) where
  looked_at : (whole : List X) (i j : ℕ) (x : X) (rest : List X) → j ≡ suc i → i < length whole →
      x ∷ rest ≡ drop i whole ++ filter p (take i whole) →
      (get_or whole i x ≡ x) × (rest ≡ drop j whole ++ filter p (take i whole))
  looked_at whole i j x rest next within same =
      let left : drop i whole ≡ get_or whole i x ∷ drop j whole = rw next (drop-cons whole i x within) in
      let e : x ∷ rest ≡ get_or whole i x ∷ (drop j whole ++ filter p (take i whole)) = rw left at same in
      (cc, cc)

  pub swept : (whole : List X) (i j : ℕ) (x : X) (rest : List X) → j ≡ suc i → i < length whole →
      x ∷ rest ≡ drop i whole ++ filter p (take i whole) →
      rest ++ filter p (x ∷ []) ≡ drop j whole ++ filter p (take j whole)
  swept whole i j x rest next within same =
      let l = looked_at whole i j x rest next within same in
      let one : filter p (take j whole) ≡ filter p (take i whole) ++ filter p (x ∷ []) =
      rw (next, ← add-one) (subst (λ (y : X). filter p (take (i + 1) whole) ≡ filter p (take i whole) ++ filter p (y ∷ [])) l.0 (filter_more p whole i x within)) in
      rw (l.1, one) (append_assoc (drop j whole) (filter p (take i whole)) (filter p (x ∷ [])))

-- a list round one of its elements
pub split_at : {X : Type 0} (xs : List X) (i : ℕ) (x : X) → i < length xs → x ≡ get_or xs i x → xs ≡ take i xs ++ x ∷ drop (suc i) xs
split_at [] i x within here = absurd (omega arith)
split_at (y ∷ ys) zero x within here = ap (λ z. z ∷ ys) (sym here)
split_at (y ∷ ys) (suc i) x within here = ap (λ zs. y ∷ zs) (split_at ys i x (omega arith) here)
