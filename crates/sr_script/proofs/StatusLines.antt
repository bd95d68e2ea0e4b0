-- Words that are appended in parts.
use Rattle.std.proofs.Common.{◌≡◌, ℕ, List, [], ◌∷◌, ◌++◌, refl, sym, ap, append_assoc, ◌∙◌}
use Rattle.sr_session.specs.Octets.{spaced}

-- words with spaces between them, and then more
spaced_more : (word : List ℕ) (words : List (List ℕ)) (next : List ℕ) (more : List (List ℕ))
    → spaced ((word ∷ words) ++ next ∷ more) ≡ spaced (word ∷ words) ++ 32 ∷ spaced (next ∷ more)
spaced_more word [] next more = refl
spaced_more word (second ∷ words) next more =
    ap (λ (l : List ℕ). word ++ 32 ∷ l) (spaced_more second words next more) ∙ sym (append_assoc word (32 ∷ spaced (second ∷ words)) (32 ∷ spaced (next ∷ more)))

-- a line whose words are appended in two parts, before its end
pub in_parts : (front told heard : List ℕ) (word : List ℕ) (words : List (List ℕ)) (next : List ℕ) (more : List (List ℕ)) (part end : List ℕ)
    → told ≡ front ++ spaced (word ∷ words) → heard ≡ told ++ 32 ∷ spaced (next ∷ more)
    → heard ++ part ++ end ≡ front ++ (spaced ((word ∷ words) ++ next ∷ more) ++ part ++ end)
in_parts front told heard word words next more part end e h =
    let first = spaced (word ∷ words) in
    let last = 32 ∷ spaced (next ∷ more) in
    let all : heard ≡ front ++ spaced ((word ∷ words) ++ next ∷ more) =
    h ∙ ap (λ (l : List ℕ). l ++ last) e ∙ append_assoc front first last ∙ ap (λ (l : List ℕ). front ++ l) (sym (spaced_more word words next more)) in
    let whole = spaced ((word ∷ words) ++ next ∷ more) in
    ap (λ (l : List ℕ). l ++ part ++ end) all ∙ ap (λ (l : List ℕ). l ++ end) (append_assoc front whole part) ∙ append_assoc front (whole ++ part) end
