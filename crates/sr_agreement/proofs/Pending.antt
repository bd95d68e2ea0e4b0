-- The octets that are looked for first, if there are any.
use Rattle.std.proofs.Common.{◌≡◌, ◌≢◌, ℕ, Bool, true, false, List, [], ◌∷◌, Option, Some, None, refl, sym, ap, ◌∙◌, subst, rules, arith, true≢false, length}
use Rattle.std.specs.Prelude.{◌↔◌, IsTrue, MatchOption, MatchBool}
use Rattle.sr_forwarding.specs.Framings.{FramingImage}
use Rattle.sr_node.specs.declared.event.Answer.{Answer}
use Rattle.sr_agreement.specs.Progress.{IsEncodingOf, Progress, same, other}

abbrev pub Pending : {T : Type 0} → (T → List ℕ) → List (List ℕ) → List (List ℕ) → Option T → Type 0
Pending show behind xs o = MatchOption o (xs ≡ []) (λ x. xs ≡ show x ∷ behind)

pub none_head : {T : Type 0} → (show : T → List ℕ) (behind xs : List (List ℕ)) (o : Option T) → o ≡ None → Pending show behind xs o → xs ≡ []
none_head show behind xs o is p = subst (λ y. Pending show behind xs y) is p

pub some_head : {T : Type 0} → (show : T → List ℕ) (behind xs : List (List ℕ)) (o : Option T) (x : T) → o ≡ Some x → Pending show behind xs o → xs ≡ show x ∷ behind
some_head show behind xs o x is p = subst (λ y. Pending show behind xs y) is p

pub end_none : {T : Type 0} → (show : T → List ℕ) (behind xs : List (List ℕ)) (o : Option T) → o ≡ None → Pending show behind xs o → IsTrue true ↔ (xs ≡ [])
end_none show behind xs o is p = ((λ _. none_head show behind xs o is p), λ _. refl)

pub end_some : {T : Type 0} → (show : T → List ℕ) (behind xs : List (List ℕ)) (o : Option T) (x : T) → o ≡ Some x → Pending show behind xs o → IsTrue false ↔ (xs ≡ [])
end_some show behind xs o x is p = let head = some_head show behind xs o x is p in ((λ t. absurd (true≢false (sym t))), λ e. cc)

pub advance_none : (f : FramingImage) (a : Answer) (octets : List ℕ) (xs : List (List ℕ)) → IsEncodingOf f a octets → xs ≡ [] → Progress f a xs []
advance_none f a octets xs enc is = other octets enc (λ zs e. cc) (sym is)

pub advance_same : (f : FramingImage) (a : Answer) (octets x : List ℕ) (xs ys : List (List ℕ)) → IsEncodingOf f a octets → x ≡ octets → xs ≡ x ∷ ys → Progress f a xs ys
advance_same f a octets x xs ys enc is head = same octets enc (head ∙ ap (λ z. z ∷ ys) is)

pub advance_other : (f : FramingImage) (a : Answer) (octets x : List ℕ) (xs ys : List (List ℕ)) → IsEncodingOf f a octets → x ≢ octets → xs ≡ x ∷ ys → Progress f a xs xs
advance_other f a octets x xs ys enc differs head = other octets enc (λ zs e. differs (cc)) refl

pub match_true : (P Q : Type 0) (b : Bool) → b ≡ true → MatchBool b P Q → P
match_true P Q true is m = m
match_true P Q false is m = absurd (true≢false (sym is))

pub match_false : (P Q : Type 0) (b : Bool) → b ≡ false → MatchBool b P Q → Q
match_false P Q true is m = absurd (true≢false is)
match_false P Q false is m = m

pub empty : {T : Type 0} → (xs : List T) → length xs ≡ 0 → xs ≡ []
empty [] is = refl
empty (x ∷ xs) is = absurd (omega (arith, is))
