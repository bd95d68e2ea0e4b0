-- What is shorter than a block: read by the kit, or filled with zeros.
use Rattle.std.proofs.Common.{◌≡◌, ℕ, ◌+◌, ◌-◌, ◌*◌, ◌<◌, ◌≤◌, ◌↔◌, List, ◌++◌, length, slice_index, drop, replicate, Result, Ok, Err, refl, sym, ap, ◌∙◌, subst, inl, inr, take_all, arith}
use Rattle.std.specs.Prelude.{MatchBool, MatchResult, IsErr, is_ok}
use Rattle.std.specs.List.{AllPass}
use Rattle.std.proofs.lemmas.Bool.{cases_lt}
use Rattle.std.proofs.lemmas.List.{get_or_append_left, get_or-append_right, get_or-drop, get_or-replicate}
use Rattle.hex.specs.Hex.{decode_of, decode_sized, is_hex_digit}
use Rattle.hex.specs.declared.error.FromHexError.{FromHexError}
use Rattle.hex.proofs.HexLemmas.{decode_sized-twice}
use Rattle.sr_hex.specs.Values.{value_of, AreDigits}
use Rattle.sr_hex.proofs.Blocks.{Octets, front_digits, value_small}

-- whether the kit read into room for all octets says whether there are any
pub read_by_kit : (s old out : List ℕ) (r : Result Unit FromHexError) → length s ≡ 2 * length old
    → MatchResult (decode_sized s (length old)) (λ bytes. (r ≡ Ok tt) × (out ≡ bytes)) (λ e. r ≡ Err e)
    → MatchBool (is_ok r) (decode_of s ≡ Ok out) (IsErr (decode_of s))
read_by_kit s old out r twice h =
    answered (decode_of s) (subst (λ d. MatchResult d (λ bytes. (r ≡ Ok tt) × (out ≡ bytes)) (λ e. r ≡ Err e)) (decode_sized-twice s (length old) twice) h)
  where
    answered : (d : Result (List ℕ) FromHexError) → MatchResult d (λ bytes. (r ≡ Ok tt) × (out ≡ bytes)) (λ e. r ≡ Err e)
        → MatchBool (is_ok r) (d ≡ Ok out) (IsErr d)
    answered (Ok bytes) is = rw is.0 (ap Ok (sym is.1))
    answered (Err e) is = rw is refl

-- octets are digits where a block is one that begins with them and goes on with the digit 0
pub filled_digits : (s block : List ℕ) → Octets s → length s < 16
    → ((k : ℕ) → k < length s → slice_index block k ≡ slice_index s k) → ((k : ℕ) → length s ≤ k → k < 16 → slice_index block k ≡ 48)
    → AreDigits block 0 16 ↔ AllPass is_hex_digit s
filled_digits s block fits short front behind = (
  λ all.
      let each : AreDigits s 0 (length s) = λ k low high. subst (λ c. value_of c < 16) (front k high) (all k low (omega arith)) in
      subst (AllPass is_hex_digit) (take_all (length s) s (omega arith)) (front_digits s (length s) fits each),
  λ pass k low high. elim (cases_lt k (length s)) [
    | inl l ↦ subst (λ c. value_of c < 16) (sym (front k l)) (value_small (slice_index s k) (fits k) (pass k 0 l))
    | inr g ↦ let zero : value_of 48 ≡ 0 = refl in subst (λ c. value_of c < 16) (sym (behind k g high)) (subst (λ v. v < 16) (sym zero) (omega arith))
  ],
)

-- such a block
pub filled_block : (s piece : List ℕ) → Octets s → length s < 16 → piece ≡ s
    → AreDigits (piece ++ drop (length s) (replicate 16 48)) 0 16 ↔ AllPass is_hex_digit s
filled_block s piece fits short e =
    let same : length piece ≡ length s = ap length e in
    filled_digits s (piece ++ drop (length s) (replicate 16 48)) fits short
    (λ k l. get_or_append_left piece _ 0 k (omega arith) ∙ ap (λ p. slice_index p k) e)
    (λ k g lt.
    get_or-append_right piece _ (length s) k 0 same g ∙ get_or-drop (length s) (replicate 16 48) (k - length s) 0 ∙ get_or-replicate 16 (length s + (k - length s)) 48 0 (omega arith))
