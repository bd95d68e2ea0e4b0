-- Lists that are part of others.
use Rattle.std.proofs.Common.{◌≡◌, ◌≢◌, ℕ, List, [], ◌∷◌, ◌++◌, ⊎_elim, refl, sym, ap, ◌∙◌, subst, rules, inl, inr, ◌⊎◌}
use Rattle.std.specs.Prelude.{◌↔◌}
use Rattle.sr_agreement.specs.Agreement.{IsAmong}

pub part_more : (xs : List (List ℕ)) (y : List ℕ) (ys : List (List ℕ)) → IsAmong xs ys → IsAmong xs (y ∷ ys)
part_more [] y ys p = tt
part_more (x ∷ xs) y ys p = inr p

pub part_tail : (x : List ℕ) (xs ys : List (List ℕ)) → IsAmong (x ∷ xs) ys → IsAmong xs ys
part_tail x xs [] p = absurd p
part_tail x xs (y ∷ ys) (inl p) = part_more xs y ys p.1
part_tail x xs (y ∷ ys) (inr p) = part_more xs y ys (part_tail x xs ys p)

pub part_same : (x y : List ℕ) (xs ys : List (List ℕ)) → x ≡ y → IsAmong (x ∷ xs) (y ∷ ys) → IsAmong xs ys
part_same x y xs ys is (inl p) = p.1
part_same x y xs ys is (inr p) = part_tail x xs ys p

pub part_other : (x y : List ℕ) (xs ys : List (List ℕ)) → x ≢ y → IsAmong (x ∷ xs) (y ∷ ys) → IsAmong (x ∷ xs) ys
part_other x y xs ys other (inl p) = absurd (other p.0)
part_other x y xs ys other (inr p) = p
