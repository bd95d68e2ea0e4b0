-- Decimal digits and the numbers that they spell.
use Rattle.std.proofs.Common.{◌≡◌, ◌≢◌, ℕ, zero, suc, ◌+◌, ◌-◌, ◌*◌, ◌^◌, ◌<◌, ◌≤◌, List, length, take, get_or, sym, ap, subst, ◌∙◌, arith, true, false, inl, inr, lit<}
use Rattle.std.specs.Char.{digit_value, is_ascii_digit}
use Rattle.std.specs.Fmt.{decimal}
use Rattle.std.specs.Int.{IsInRange}
use Rattle.std.specs.Str.Parse.{AllDigits, digits_value}
use Rattle.std.specs.Prelude.{Option, Some, None, IfSome}
use Rattle.std.specs.Option.{SomeIff}
use Rattle.std.proofs.lemmas.Bool.{cases_lt}
use native.Mathlib.Nat.{pow-le-pow_right}
use lib.ListN.{length-take}
use Rattle.std.proofs.lemmas.Int.Digits.{digits_value_more, digits_value-lt}
use Rattle.std.proofs.lemmas.Str.Parse.{digit_at, digits_value-take-le}
use Rattle.std.proofs.lemmas.Fmt.{digits_value-decimal, decimal-digits_value, decimal_digit, decimal_nonempty, first_decimal}
use Rattle.sr_words.specs.WordLemmas.{own, all_decimal}

pub value_decimal : (n : ℕ) → n < 2 ^ 64 → digits_value 10 (decimal n) ≡ n
value_decimal n lt = digits_value-decimal own n lt

-- two digits or more do not begin with a 0
pub no_leading_zero : (n : ℕ) → n < 2 ^ 64 → 1 < length (decimal n) → get_or (decimal n) 0 0 ≢ 48
no_leading_zero zero lt long e = absurd (omega (arith, ap length (decimal_digit 0 (omega arith))))
no_leading_zero (suc n) lt long e = omega (arith, first_decimal (suc n) (omega arith) lt)

-- digits without leading zeros are those of their value
pub decimal_value : (ds : List ℕ) → AllDigits 10 ds → 0 < length ds → (get_or ds 0 0 ≡ 48 → length ds ≡ 1) → digits_value 10 ds < 2 ^ 64
    → ds ≡ decimal (digits_value 10 ds)
decimal_value ds all some first lt = sym (decimal-digits_value own ds all some first lt)

-- the value of a front is at most that of all digits
pub value_front : (ds : List ℕ) (i : ℕ) → i < length ds → digits_value 10 (take i ds) * 10 + digit_value (get_or ds i 0) ≤ digits_value 10 ds
value_front ds i lt = subst (λ n. n ≤ digits_value 10 ds) (digits_value_more 10 ds i lt) (digits_value-take-le 10 ds (i + 1) (omega arith))

-- the value of a front of at most eighteen digits, with another behind it, is below 2 to the 64th
pub front_fits : (ds : List ℕ) (i : ℕ) → i ≤ length ds → i ≤ 18 → AllDigits 10 (take i ds) → digits_value 10 (take i ds) * 10 + 9 < 2 ^ 64
front_fits ds i within few all =
    let below : digits_value 10 (take i ds) < 10 ^ length (take i ds) = digits_value-lt 10 (take i ds) all in
    let short : length (take i ds) ≤ 18 = omega (arith, length-take i ds) in
    let most : 10 ^ length (take i ds) ≤ 10 ^ 18 = pow-le-pow_right (lit< tt) short in
    omega (arith, below, most)

-- the value of at most nineteen digits has no more
pub few_value : (ds : List ℕ) → length ds ≤ 19 → AllDigits 10 ds → digits_value 10 ds < 10 ^ 19
few_value ds few all =
    let below : digits_value 10 ds < 10 ^ length ds = digits_value-lt 10 ds all in
    let most : 10 ^ length ds ≤ 10 ^ 19 = pow-le-pow_right (lit< tt) few in
    omega (arith, below, most)

-- an octet that is no digit has no place among digits
pub no_digit : (ds : List ℕ) (i : ℕ) → i < length ds → is_ascii_digit (get_or ds i 0) ≡ false → AllDigits 10 ds → ⊥
no_digit ds i lt bad all = let r = digit_at ds i all lt in outside (get_or ds i 0) bad r
  where
    outside : (c : ℕ) → is_ascii_digit c ≡ false → IsInRange 48 57 c → ⊥
    outside c bad r = grind (arith)

-- the value of a digit
pub digit_value_is : (c : ℕ) → is_ascii_digit c ≡ true → (digit_value c ≡ c - 48) × (c - 48 < 10)
digit_value_is c is = (grind (arith), grind (arith))

-- the value of digits without leading zeros is the number that they spell
pub number_found : (ds : List ℕ) (r : Option ℕ) → 0 < length ds → ((1 < length ds) × (get_or ds 0 0 ≡ 48) → ⊥)
    → SomeIff r (AllDigits 10 ds × (digits_value 10 ds < 2 ^ 64)) (digits_value 10 ds) → IfSome r (λ n. ds ≡ decimal n)
number_found ds None some first is = tt
number_found ds (Some n) some first is = rw is.1 (decimal_value ds is.0.0 some (λ e. one (first, e)) is.0.1)
  where
    one : ((1 < length ds) × (get_or ds 0 0 ≡ 48) → ⊥) × (get_or ds 0 0 ≡ 48) → length ds ≡ 1
    one h = elim (cases_lt 1 (length ds)) [ inl more ↦ absurd (h.0 (more, h.1)) | inr less ↦ omega arith ]

-- what a number's digits spell has no other value
pub number_only : (ds : List ℕ) (r : Option ℕ) (n : ℕ) → n < 2 ^ 64 → ds ≡ decimal n
    → SomeIff r (AllDigits 10 ds × (digits_value 10 ds < 2 ^ 64)) (digits_value 10 ds) → r ≡ Some n
number_only ds None n lt e is =
    let value : digits_value 10 ds ≡ n = ap (digits_value 10) e ∙ value_decimal n lt in
    absurd (is (subst (AllDigits 10) (sym e) (all_decimal n lt), omega arith))
number_only ds (Some m) n lt e is = ap Some (is.1 ∙ ap (digits_value 10) e ∙ value_decimal n lt)

-- no number has no digits, or a 0 before others
pub no_empty_number : (ds : List ℕ) (n : ℕ) → n < 2 ^ 64 → ds ≡ decimal n → length ds ≡ 0 → ⊥
no_empty_number ds n lt e none = omega (arith, ap length e, decimal_nonempty n lt)

pub no_zero_before : (ds : List ℕ) (n : ℕ) → n < 2 ^ 64 → ds ≡ decimal n → (1 < length ds) × (get_or ds 0 0 ≡ 48) → ⊥
no_zero_before ds n lt e h =
    no_leading_zero n lt (subst (λ (l : List ℕ). 1 < length l) e h.0) (subst (λ (l : List ℕ). get_or l 0 0 ≡ 48) e h.1)
