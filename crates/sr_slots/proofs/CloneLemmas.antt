-- Entries that are added one after another.
use Rattle.std.proofs.Common.{◌≡◌, false, cond, List, [], ◌∷◌, ◌++◌, None, Some, refl, ap, ◌∙◌, append_assoc}
use Rattle.std.specs.List.{IsDistinct, AllByRecursion}
use Rattle.std.specs.Map.{lookup, keys_of}
use Rattle.sr_frame.specs.declared.fields.Mac.{Mac}
use Rattle.sr_frame.specs.Addresses.{mac_eq}
use Rattle.sr_frame.specs.AddressLemmas.{mac_symm}

module _ {X : Type 0} where
  apart_from : (m k : Mac) (w : X) (es rest : List (Mac × X)) → AllByRecursion (λ y. mac_eq m y ≡ false) (keys_of (es ++ (k, w) ∷ rest)) → mac_eq m k ≡ false
  apart_from m k w [] rest h = h.0
  apart_from m k w (e ∷ es) rest h = apart_from m k w es rest h.1

  -- an address is not among those before it
  pub absent_before : (k : Mac) (w : X) (es rest : List (Mac × X)) → IsDistinct mac_eq (keys_of (es ++ (k, w) ∷ rest)) → lookup (mac_eq k) es ≡ None
  unfolding IsDistinct
  absent_before k w [] rest unique = refl
  absent_before k w (e ∷ es) rest unique =
      ap (λ b. cond b (Some e.1) (lookup (mac_eq k) es)) (mac_symm k e.0 ∙ apart_from e.0 k w es rest unique.0) ∙ absent_before k w es rest unique.1

  -- one more of those that are left
  pub one_more : (es all rest : List (Mac × X)) (e : Mac × X) → es ++ (e ∷ rest) ≡ all → (es ++ e ∷ []) ++ rest ≡ all
  one_more es all rest e is = append_assoc es (e ∷ []) rest ∙ is
