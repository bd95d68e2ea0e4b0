-- The front of a file.
use Rattle.std.proofs.Common.{◌≡◌, ℕ, List, ◌++◌, take, Option, Some, None, Bool, true, false, sym, ap, subst, ◌∙◌, arith}
use Rattle.std.specs.Prelude.{IfSome}
use Rattle.std.proofs.lemmas.List.{append-nil, take_at, take_all}
use Rattle.sr_capture.specs.Taking.{Loses, TakesAll}
use Rattle.sr_capture.specs.declared.fault.Reason.{Reason}
use Rattle.sr_capture.specs.Headers.{IsRefused}

-- what was taken is lost
pub loses_taken : (whole : Bool) (count : ℕ) (front : List ℕ) (a b : Option (List ℕ)) → TakesAll whole count front a b → Loses front a b
loses_taken true count front a b t = t.0
loses_taken false count front a b t = t.0

-- what was taken is the front
front_is : (whole : Bool) (count : ℕ) (front xs : List ℕ) (b : Option (List ℕ)) → TakesAll whole count front (Some xs) b → take count xs ≡ front
front_is true count front xs None t = absurd t.0
front_is true count front xs (Some ys) t = ap (take count) t.0 ∙ take_at front ys count t.1
front_is false count front xs None t = absurd t.0
front_is false count front xs (Some ys) t =
    let all : xs ≡ front = t.0 ∙ ap (λ (l : List ℕ). front ++ l) t.2 ∙ append-nil front in
    ap (take count) all ∙ take_all count front (omega (arith, t.1))

pub refused_front : (a b : Option (List ℕ)) (whole : Bool) (front shown : List ℕ) (r : Reason) → TakesAll whole 24 front a b → shown ≡ front → IsRefused shown r
    → IfSome a (λ xs. IsRefused (take 24 xs) r)
refused_front None b whole front shown r t is wrong = tt
refused_front (Some xs) b whole front shown r t is wrong =
    let P : List ℕ → Type 0 = λ l. IsRefused l r in subst P (is ∙ sym (front_is whole 24 front xs b t)) wrong
