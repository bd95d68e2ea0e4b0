-- Digits of either case, by their codes.
use Rattle.std.proofs.Common.{◌≡◌, ℕ, ◌+◌, ◌*◌, ◌%◌, ◌<◌, true, Option, Some, None, unwrap_or, Ok, refl, sym, ap, ◌∙◌, arith}
use Rattle.hex.specs.Hex.{hex_digit_value, is_hex_digit, pair_value}

-- an octet whose value is below 16 is a digit of that value
digit_is : (o : Option ℕ) (v : ℕ) → v ≡ unwrap_or o 255 → v < 16 → o ≡ Some v
digit_is None v e lt = absurd (omega arith)
digit_is (Some w) v e lt = ap Some (sym e)

-- a digit's value is below 16
pub digit_small : (c v : ℕ) → v ≡ unwrap_or (hex_digit_value c) 255 → is_hex_digit c ≡ true → v < 16
digit_small c v e is = grind (arith)

-- two digits spell an octet
pub pair_spelled : (a b high low i : ℕ) → high ≡ unwrap_or (hex_digit_value a) 255 → low ≡ unwrap_or (hex_digit_value b) 255 → high < 16 → low < 16
    → pair_value a b i ≡ Ok ((high * 16 % 256 + low) % 256)
pair_spelled a b high low i eh el hs ls =
    let ha = digit_is (hex_digit_value a) high eh hs in
    let hb = digit_is (hex_digit_value b) low el ls in
    let value : (high * 16 % 256 + low) % 256 ≡ high * 16 + low = omega arith in
    let pair : pair_value a b i ≡ Ok (high * 16 + low) = rw (ha, hb) refl in
    pair ∙ ap Ok (sym value)
