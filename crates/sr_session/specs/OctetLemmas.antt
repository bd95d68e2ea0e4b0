-- Texts that lack an octet, and the text around the first place of one.
use Rattle.std.proofs.Common.{◌≡◌, ℕ, ◌+◌, List, [], ◌∷◌, ◌++◌, length, take, drop, sym, ap, refl, subst, ◌<◌, ◌∙◌, append_assoc, get_or}
use Rattle.std.proofs.lemmas.List.{take_more, take-append-drop}
use Rattle.sr_session.specs.Octets.{Lacks}

pub Lacks-append : (octet : ℕ) (xs ys : List ℕ) → Lacks octet xs → Lacks octet ys → Lacks octet (xs ++ ys)
Lacks-append octet [] ys h k = k
Lacks-append octet (x ∷ xs) ys h k = (h.0, Lacks-append octet xs ys h.1 k)

-- a search one by one, from the front
pub Lacks-more : (octet : ℕ) (xs : List ℕ) (i : ℕ) → i < length xs → (get_or xs i 0 ≡ octet → ⊥) → Lacks octet (take i xs)
    → Lacks octet (take (i + 1) xs)
Lacks-more octet xs i lt other h =
    let one : Lacks octet (get_or xs i 0 ∷ []) = (other, tt) in
    subst (Lacks octet) (sym (take_more xs i 0 lt)) (Lacks-append octet (take i xs) (get_or xs i 0 ∷ []) h one)

-- the text around its first place
pub around_place : (octet : ℕ) (xs : List ℕ) (at : ℕ) → take (at + 1) xs ≡ take at xs ++ octet ∷ []
    → xs ≡ take at xs ++ octet ∷ drop (at + 1) xs
around_place octet xs at e =
    sym (take-append-drop (at + 1) xs) ∙ ap (λ (l : List ℕ). l ++ drop (at + 1) xs) e
    ∙ append_assoc (take at xs) (octet ∷ []) (drop (at + 1) xs)

-- one text has one first place
pub one_place : (octet : ℕ) (xs ys ws vs : List ℕ) → Lacks octet xs → Lacks octet ws → xs ++ octet ∷ ys ≡ ws ++ octet ∷ vs
    → (xs ≡ ws) × (ys ≡ vs)
one_place octet [] ys [] vs h k e = (refl, cc)
one_place octet [] ys (w ∷ ws) vs h k e = let same : octet ≡ w = cc in absurd (k.0 (sym same))
one_place octet (x ∷ xs) ys [] vs h k e = let same : x ≡ octet = cc in absurd (h.0 same)
one_place octet (x ∷ xs) ys (w ∷ ws) vs h k e =
    let same : x ≡ w = cc in
    let rest : xs ++ octet ∷ ys ≡ ws ++ octet ∷ vs = cc in
    let more = one_place octet xs ys ws vs h.1 k.1 rest in
    (cc (same, more.0), more.1)

-- a text that lacks the octet has none in it
pub no_place : (octet : ℕ) (ws vs : List ℕ) → Lacks octet (ws ++ octet ∷ vs) → ⊥
no_place octet [] vs h = h.0 refl
no_place octet (w ∷ ws) vs h = no_place octet ws vs h.1
