-- Lines of ASCII.
use Rattle.std.proofs.Common.{◌≡◌, ℕ, Bool, true, false, List, length, slice_index, ◌<◌, ◌↔◌, refl, inl, inr, arith}
use Rattle.std.specs.Prelude.{MatchBool}
use Rattle.std.specs.Str.{IsAscii, IsNotAscii}
use Rattle.std.proofs.lemmas.Bool.{cases_lt}
use Rattle.std.proofs.lemmas.List.{get_or_past}
use Rattle.std.proofs.lemmas.List.Elements.{All-from_get_or}
use Rattle.sr_words.specs.Words.{IsComment}

-- a line whose first octet is right is a comment where it is ASCII
pub ascii_comment : (line : List ℕ) (ascii : Bool) → slice_index line 0 ≡ 35 → MatchBool ascii (IsAscii line) (IsNotAscii line)
    → (ascii ≡ true) ↔ IsComment line
ascii_comment line true first all = (λ _. (first, All-from_get_or (λ octet. octet < 128) line 0 (λ k _. all k)), λ _. refl)
ascii_comment line false first one = (
  λ e. absurd cc,
  λ comment. elim (cases_lt one.0 (length line)) [
    | inl within ↦ let small : slice_index line one.0 < 128 = comment.1 one.0 0 within in absurd (omega (arith, one.1))
    | inr past ↦ absurd (let none = get_or_past line one.0 0 past in omega (arith, one.1))
  ],
)
