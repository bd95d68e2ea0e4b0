-- Digits of either case spell octets.
use Rattle.std.proofs.Common.{◌≡◌, ◌%◌, List, ℕ, length, arith}
use Rattle.std.specs.Prelude.{◌/◌}
use Rattle.std.specs.List.{AllPass}
use Rattle.hex.specs.Hex.{is_hex_digit}
use Rattle.hex.proofs.HexLemmas.{decode_of-ok, decode_of-digits}
use Rattle.sr_words.specs.Words.{IsHex}

-- pairs of digits spell octets, at least one
pub pairs_spell : (s : List ℕ) → length s % 2 ≡ 0 → (length s / 2 ≡ 0 → ⊥) → AllPass is_hex_digit s → (octets : List ℕ) × IsHex s octets
pairs_spell s even some all =
    let h = decode_of-digits s even all in
    let size = decode_of-ok s h.0 h.1 in
    (h.0, (h.1, omega (arith, size.2)))
