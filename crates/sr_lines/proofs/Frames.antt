-- One frame more from a wire.
use Rattle.std.proofs.Common.{◌≡◌, ℕ, List, [], ◌∷◌, ◌++◌, refl, ap, sym, ◌∙◌}
use Rattle.sr_workers.specs.Told.{Framed}
use Rattle.sr_lines.specs.Handed.{frames_of}

push : (xs : List (List ℕ)) (x : List ℕ) → frames_of (xs ++ x ∷ []) ≡ frames_of xs ++ Framed x 0 ∷ []
push [] x = refl
push (y ∷ ys) x = ap (λ l. Framed y 0 ∷ l) (push ys x)

pub frames_more : (xs now : List (List ℕ)) (x octets : List ℕ) → now ≡ xs ++ x ∷ [] → octets ≡ x → frames_of now ≡ frames_of xs ++ Framed octets 0 ∷ []
frames_more xs now x octets is same = ap frames_of is ∙ push xs x ∙ ap (λ y. frames_of xs ++ Framed y 0 ∷ []) (sym same)
