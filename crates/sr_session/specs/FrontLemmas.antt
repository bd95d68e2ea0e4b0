-- A line at the front of a text.
use Rattle.std.proofs.Common.{◌≡◌, ℕ, zero, suc, ◌+◌, ◌≤◌, List, [], ◌∷◌, ◌++◌, length, drop, sym, ap, refl, ◌∙◌, arith}
use Rattle.std.proofs.lemmas.List.{length-append}
use Rattle.sr_session.specs.Fronts.{IsFrontLine}
use Rattle.sr_session.specs.Octets.{Lacks}

-- behind a line and the LF that ends it
pub drop_line : (line rest : List ℕ) (n : ℕ) → length line ≡ n → drop (n + 1) (line ++ 10 ∷ rest) ≡ rest
drop_line [] rest zero e = refl
drop_line [] rest (suc n) e = absurd (omega arith)
drop_line (b ∷ bs) rest zero e = absurd (omega arith)
drop_line (b ∷ bs) rest (suc n) e =
    let later : suc n + 1 ≡ suc (n + 1) = omega arith in
    rw later (drop_line bs rest n (omega arith))

-- a line and the LF behind it
pub placed : (text line behind : List ℕ) → text ≡ line ++ 10 ∷ behind → Lacks 10 line → length line ≤ 8000 → IsFrontLine text line
placed text line behind whole lacks short =
    let left : behind ≡ drop (length line + 1) text = sym (drop_line line behind (length line) refl)
    ∙ ap (drop (length line + 1)) (sym whole) in
    record {
      unbroken = lacks;
      short = short;
      parts = whole ∙ ap (λ (l : List ℕ). line ++ 10 ∷ l) left;
      within = omega (arith, ap length whole, length-append line (10 ∷ behind));
    }
