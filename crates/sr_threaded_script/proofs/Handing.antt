-- What a host hands out.
use Rattle.std.proofs.Common.{◌≡◌, ◌+◌, ◌<◌, ◌≤◌, ◌++◌, ◌∷◌, [], ℕ, List, length, get_or, take, map, ap, sym, ◌∙◌, arith}
use Rattle.std.proofs.lemmas.List.{map-append, take_more, take_all}
use Rattle.sr_workers.specs.Told.{Framed}

-- one frame more, and these are its octets
pub handed_more : (fs : List (List ℕ)) (n : ℕ) (f octets : List ℕ) → n < length fs → f ≡ get_or fs n f → octets ≡ f
    → map (λ (x : List ℕ). Framed x 0) (take (n + 1) fs) ≡ map (λ (x : List ℕ). Framed x 0) (take n fs) ++ Framed octets 0 ∷ []
handed_more fs n f octets within is same =
    ap (map (λ (x : List ℕ). Framed x 0)) (take_more fs n f within)
    ∙ map-append (λ (x : List ℕ). Framed x 0) (take n fs) (get_or fs n f ∷ [])
    ∙ ap (λ (x : List ℕ). map (λ (y : List ℕ). Framed y 0) (take n fs) ++ Framed x 0 ∷ []) (sym (same ∙ is))

-- behind the last one nothing
pub handed_all : (fs : List (List ℕ)) (n : ℕ) → length fs ≤ n
    → map (λ (x : List ℕ). Framed x 0) (take (n + 1) fs) ≡ map (λ (x : List ℕ). Framed x 0) (take n fs)
handed_all fs n behind =
    ap (map (λ (x : List ℕ). Framed x 0)) (take_all (n + 1) fs (omega arith) ∙ sym (take_all n fs behind))
