-- Rows of nodes and of what is judged of them.
use Rattle.std.proofs.Common.{◌≡◌, ℕ, zero, suc, ◌+◌, ◌<◌, List, [], ◌∷◌, ◌++◌, length, get_or, refl, sym, ap, ◌∙◌, subst, arith, below_more}
use Rattle.std.proofs.lemmas.List.{get_or_append_left, get_or_push}

-- what stands within is there whatever would stand for it
pub any_default : {A : Type 0} → (xs : List A) (i : ℕ) (d e : A) → i < length xs → get_or xs i d ≡ get_or xs i e
any_default [] i d e low = absurd (omega (arith, low))
any_default (x ∷ xs) zero d e low = refl
any_default (x ∷ xs) (suc i) d e low = any_default xs i d e (omega (arith, low))

-- one more keeps a fact of each
pub push_each : {H : Type 0} (P : ℕ → H → Type 0) (hs now : List H) (h : H) (n : ℕ) → now ≡ hs ++ h ∷ [] → length hs ≡ n → ((i : ℕ) (d : H) → i < n → P i (get_or hs i d)) → P n h → (i : ℕ) (d : H) → i < n + 1 → P i (get_or now i d)
push_each P hs now h n is len old new i d below =
    let Q : ℕ → Type 0 = λ m. P m (get_or now m d) in
    let low : (m : ℕ) → m < n → Q m = λ m lt. subst (λ x. P m x) (sym (ap (λ l. get_or l m d) is ∙ get_or_append_left hs (h ∷ []) d m (omega (arith, len)))) (old m d lt) in
    let here : Q n = subst (λ x. P n x) (sym (ap (λ l. get_or l n d) is ∙ get_or_push hs h d n len)) new in
    below_more Q n low here i below
