-- A label that a text begins with.
use Rattle.std.proofs.Common.{◌≡◌, ℕ, true, eqb, eqb-true, eq-eqb, take, List, ◌++◌, length, refl, ap, ◌∙◌}
use Rattle.std.specs.Cmp.Lexicographic.{pointwise}
use lib.Pointwise.{pointwise_decides}
use Rattle.std.proofs.lemmas.List.{take_at}

same_octets : (x y : ℕ) → (eqb x y ≡ true → x ≡ y) × (x ≡ y → eqb x y ≡ true)
same_octets x y = (λ h. eqb-true x y h, λ h. eq-eqb x y h)

-- a text that begins with a label is seen to
pub seen_label : (label text rest : List ℕ) → text ≡ label ++ rest → pointwise eqb (take (length label) text) label ≡ true
seen_label label text rest e =
    (pointwise_decides same_octets (take (length label) text) label).1 (ap (take (length label)) e ∙ take_at label rest (length label) refl)
