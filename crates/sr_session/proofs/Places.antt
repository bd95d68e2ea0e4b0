-- Where a search finds an octet first.
use Rattle.std.proofs.Common.{ℕ, zero, suc, List, [], ◌∷◌, ◌++◌, length, take, Option, Some, None, ap, ◌∙◌, arith, eq-eqb, get_or}
use Rattle.std.proofs.lemmas.Bool.{eqb-true}
use Rattle.std.proofs.lemmas.List.{take_more}
use Rattle.memchr.specs.Find.{Nowhere, Passes, is_byte, IsFirstByte}
use Rattle.sr_session.specs.Octets.{Lacks, IsPlaceOf}

-- where a search finds no place there is none
Lacks-from_nowhere : (octet : ℕ) (xs : List ℕ) → Nowhere (Passes (is_byte octet) xs) 0 (length xs) → Lacks octet xs
Lacks-from_nowhere octet [] h = tt
Lacks-from_nowhere octet (x ∷ xs) h = (
  λ e. h 0 (omega arith) (omega arith) (eq-eqb x octet e),
  Lacks-from_nowhere octet xs (λ k low lt p. h (suc k) (omega arith) (omega arith) p),
)

-- there is none before the first
Lacks-before : (octet : ℕ) (xs : List ℕ) (at : ℕ) → Nowhere (Passes (is_byte octet) xs) 0 at → Lacks octet (take at xs)
Lacks-before octet xs zero h = tt
Lacks-before octet [] (suc at) h = tt
Lacks-before octet (x ∷ xs) (suc at) h = (
  λ e. h 0 (omega arith) (omega arith) (eq-eqb x octet e),
  Lacks-before octet xs at (λ k low lt p. h (suc k) (omega arith) (omega arith) p),
)

-- what a search finds is the first place
pub IsPlaceOf-found : (octet : ℕ) (xs : List ℕ) (r : Option ℕ) → IsFirstByte (is_byte octet) xs r → IsPlaceOf octet xs r
IsPlaceOf-found octet xs None h = Lacks-from_nowhere octet xs h
IsPlaceOf-found octet xs (Some at) h =
    let first = h.0 in
    (Lacks-before octet xs at first.before, take_more xs at 0 first.high ∙ ap (λ b. take at xs ++ b ∷ []) (eqb-true (get_or xs at 0) octet h.1), first.high)
