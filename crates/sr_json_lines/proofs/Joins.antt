-- Lists that are appended in parts.
use Rattle.std.proofs.Common.{◌≡◌, List, ◌++◌, ap, append_assoc, ◌∙◌}

module _ {A : Type 0} where
  -- in two parts
  pub in_two : (t x y s u : List A) → s ≡ t ++ x → u ≡ s ++ y → u ≡ t ++ (x ++ y)
  in_two t x y s u first second = second ∙ ap (λ (l : List A). l ++ y) first ∙ append_assoc t x y

  -- in three parts
  pub in_three : (t x y z s u v : List A) → s ≡ t ++ x → u ≡ s ++ y → v ≡ u ++ z → v ≡ t ++ (x ++ (y ++ z))
  in_three t x y z s u v first second third = in_two t x (y ++ z) s v first (in_two s y z u v second third)

  -- in four parts
  pub in_four : (t w x y z s u v p : List A) → s ≡ t ++ w → u ≡ s ++ x → v ≡ u ++ y → p ≡ v ++ z → p ≡ t ++ (w ++ (x ++ (y ++ z)))
  in_four t w x y z s u v p first second third fourth = in_two t w (x ++ (y ++ z)) s p first (in_three s x y z u v p second third fourth)
