-- Words hold no space, and spell one thing.
use Rattle.std.proofs.Common.{◌≡◌, ℕ, ◌<◌, ◌^◌, List, [], ◌∷◌, arith, lit<}
use Rattle.std.specs.Fmt.{decimal}
use Rattle.std.specs.Str.Parse.{AllDigits, digits_value}
use Rattle.std.specs.Int.{IsInRange}
use Rattle.std.proofs.lemmas.Str.Parse.{IsNumeralModel, numerals_by_value, tells_digits, digit_from_value}
use Rattle.std.proofs.lemmas.Fmt.{digits_decimal}
use Rattle.hex.proofs.HexLemmas.{decode_of-same}
use Rattle.sr_session.specs.Octets.{Lacks}
use Rattle.sr_words.specs.Words.{IsHex}

-- decimal digits are numerals by their value
pub own : IsNumeralModel (AllDigits 10) (digits_value 10)
own = numerals_by_value _ tells_digits

-- a number has decimal digits
pub all_decimal : (n : ℕ) → n < 2 ^ 64 → AllDigits 10 (decimal n)
all_decimal n lt = digits_decimal own n lt

digits_lack : (octet : ℕ) (ds : List ℕ) → octet < 48 → AllDigits 10 ds → Lacks octet ds
digits_lack octet [] low h = tt
digits_lack octet (d ∷ ds) low h = (λ e. let r : IsInRange 48 57 d = digit_from_value d h.0 in apart d e r, digits_lack octet ds low h.1)
  where
    apart : (d : ℕ) → d ≡ octet → IsInRange 48 57 d → ⊥
    apart d e r = grind (arith)

-- the digits of a number hold no space, and no LF
pub decimal_lacks : (n : ℕ) → n < 2 ^ 64 → Lacks 32 (decimal n)
decimal_lacks n lt = digits_lack 32 (decimal n) (lit< tt) (all_decimal n lt)

pub decimal_unbroken : (n : ℕ) → n < 2 ^ 64 → Lacks 10 (decimal n)
decimal_unbroken n lt = digits_lack 10 (decimal n) (lit< tt) (all_decimal n lt)

-- digits spell one list of octets
pub one_hex : (digits os ps : List ℕ) → IsHex digits os → IsHex digits ps → os ≡ ps
one_hex digits os ps h k = decode_of-same digits os ps h.0 k.0
