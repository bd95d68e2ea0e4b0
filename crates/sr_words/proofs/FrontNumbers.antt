-- A number at the front of a text, and the space that ends it.
use Rattle.std.proofs.Common.{◌≡◌, ℕ, ◌+◌, ◌-◌, ◌^◌, ◌<◌, ◌≤◌, false, List, ◌∷◌, [], ◌++◌, length, take, drop, get_or, refl, sym, ap, subst, ◌∙◌, inl, inr, arith, lit<, take_all, Some}
use Rattle.std.specs.Char.{is_ascii_digit}
use Rattle.std.specs.Fmt.{decimal}
use Rattle.std.specs.Int.{IsInRange}
use Rattle.std.specs.Str.Parse.{AllDigits, digits_value}
use Rattle.std.proofs.lemmas.Bool.{cases_lt}
use Rattle.std.proofs.lemmas.Fmt.{decimal_nonempty, length-decimal-le}
use Rattle.std.proofs.lemmas.List.{get_or_append_left, get_or-append_right, get_or-take, length-append, length-take, take-append-le, take_more}
use Rattle.std.proofs.lemmas.Str.Parse.{digit_at}
use Rattle.sr_session.specs.Octets.{Lacks}
use Rattle.sr_session.specs.OctetLemmas.{around_place, one_place}
use Rattle.sr_words.specs.WordLemmas.{all_decimal, decimal_lacks}
use Rattle.sr_words.proofs.Numerals.{decimal_value, few_value, no_digit, no_zero_before, value_decimal}

-- what stands behind a word and a space at the front
space_at : (word rest : List ℕ) → get_or (word ++ 32 ∷ rest) (length word) 0 ≡ 32
space_at word rest =
    let first : length word - length word ≡ 0 = omega arith in
    get_or-append_right word (32 ∷ rest) (length word) (length word) 0 refl (omega arith) ∙ ap (λ k. get_or (32 ∷ rest) k 0) first

no_space : (ds : List ℕ) (i : ℕ) → AllDigits 10 ds → i < length ds → get_or ds i 0 ≡ 32 → ⊥
no_space ds i all lt e = let r = digit_at ds i all lt in outside (get_or ds i 0) e r
  where
    outside : (c : ℕ) → c ≡ 32 → IsInRange 48 57 c → ⊥
    outside c e r = grind (arith)

-- digits at the front go no further than the first word, and where they go on as far as they can, no less far than one of digits
front_short : (text word rest : List ℕ) (n : ℕ) → text ≡ word ++ 32 ∷ rest → n ≤ length text → AllDigits 10 (take n text) → n ≤ length word
front_short text word rest n e within all = elim (cases_lt (length word) n) [
  | inl beyond ↦
      let space : get_or text (length word) 0 ≡ 32 = ap (λ (l : List ℕ). get_or l (length word) 0) e ∙ space_at word rest in
      absurd (no_space (take n text) (length word) all (omega (arith, length-take n text)) (get_or-take n text (length word) 0 beyond ∙ space))
  | inr short ↦ short
]

front_is : (text word rest : List ℕ) (n : ℕ) → text ≡ word ++ 32 ∷ rest → AllDigits 10 word → length word ≤ 19 → n ≤ length text
    → AllDigits 10 (take n text) → (n < 19 → n < length text → is_ascii_digit (get_or text n 0) ≡ false) → n ≡ length word
front_is text word rest n e digits few within all end =
    let short = front_short text word rest n e within all in
    elim (cases_lt n (length word)) [
      | inl less ↦
          let inside : get_or text n 0 ≡ get_or word n 0 = ap (λ (l : List ℕ). get_or l n 0) e ∙ get_or_append_left word (32 ∷ rest) 0 n less in
          let none = end (omega arith) (omega (arith, ap length e, length-append word (32 ∷ rest))) in
          absurd (no_digit word n less (ap is_ascii_digit (sym inside) ∙ none) digits)
      | inr more ↦ omega arith
    ]

-- the digits at the front of a text that begins with a number of at most nineteen digits and a space
pub front_decimal : (text rest : List ℕ) (count n : ℕ) → n < 10 ^ 19 → text ≡ decimal n ++ 32 ∷ rest → count ≤ length text
    → AllDigits 10 (take count text) → (count < 19 → count < length text → is_ascii_digit (get_or text count 0) ≡ false) → count ≡ length (decimal n)
front_decimal text rest count n small e within all end =
    let fits : n < 2 ^ 64 = omega arith in
    front_is text (decimal n) rest count e (all_decimal n fits) (length-decimal-le 19 n (lit< tt) small fits) within all end

-- so there are some, they do not begin with a 0 before others, and a space stands behind them
pub some_front : (text rest : List ℕ) (count n : ℕ) → n < 10 ^ 19 → text ≡ decimal n ++ 32 ∷ rest → count ≡ length (decimal n)
    → (0 < count) × (count < length text)
some_front text rest count n small e is =
    let some = decimal_nonempty n (omega arith) in
    (omega arith, omega (arith, ap length e, length-append (decimal n) (32 ∷ rest)))

pub space_behind : (text rest : List ℕ) (count n : ℕ) → text ≡ decimal n ++ 32 ∷ rest → count ≡ length (decimal n) → get_or text count 0 ≡ 32
space_behind text rest count n e is = (λ j. get_or (e j) (is j) 0) ∙ space_at (decimal n) rest

front_word : (text rest : List ℕ) (count n : ℕ) → text ≡ decimal n ++ 32 ∷ rest → count ≡ length (decimal n) → take count text ≡ decimal n
front_word text rest count n e is =
    (λ j. take (is j) (e j)) ∙ take-append-le (length (decimal n)) (decimal n) (32 ∷ rest) (omega arith) ∙ take_all (length (decimal n)) (decimal n) (omega arith)

pub no_front_zero : (text rest : List ℕ) (count n : ℕ) → n < 10 ^ 19 → text ≡ decimal n ++ 32 ∷ rest → count ≡ length (decimal n)
    → (1 < length (take count text)) × (get_or (take count text) 0 0 ≡ 48) → ⊥
no_front_zero text rest count n small e is h = no_zero_before (take count text) n (omega arith) (front_word text rest count n e is) h

-- the text around the space
pub parted : (text : List ℕ) (count : ℕ) → count < length text → get_or text count 0 ≡ 32 → text ≡ take count text ++ 32 ∷ drop (count + 1) text
parted text count lt e = around_place 32 text count (take_more text count 0 lt ∙ ap (λ c. take count text ++ c ∷ []) e)

-- the number that is read, and what stands behind it
pub read_number : (text rest : List ℕ) (value count n : ℕ) → n < 10 ^ 19 → text ≡ decimal n ++ 32 ∷ rest → count ≡ length (decimal n)
    → value ≡ digits_value 10 (take count text) → (value ≡ n) × (drop (count + 1) text ≡ rest)
read_number text rest value count n small e is value_is =
    let fits : n < 2 ^ 64 = omega arith in
    let word = front_word text rest count n e is in
    let around = parted text count (some_front text rest count n small e is).1 (space_behind text rest count n e is) in
    let same = one_place 32 (take count text) (drop (count + 1) text) (decimal n) rest (subst (Lacks 32) (sym word) (decimal_lacks n fits)) (decimal_lacks n fits)
    (sym around ∙ e) in
    (value_is ∙ ap (digits_value 10) word ∙ value_decimal n fits, same.1)

-- what is read is spelled so
pub spelled_number : (text : List ℕ) (value count : ℕ) → 0 < count → count < length text → count ≤ 19 → AllDigits 10 (take count text)
    → ((1 < length (take count text)) × (get_or (take count text) 0 0 ≡ 48) → ⊥) → value ≡ digits_value 10 (take count text)
    → get_or text count 0 ≡ 32 → (text ≡ decimal value ++ 32 ∷ drop (count + 1) text) × (value < 10 ^ 19)
spelled_number text value count some within few all first value_is space =
    let word = take count text in
    let long : length word ≡ count = omega (arith, length-take count text) in
    let small = few_value word (omega arith) all in
    let one : get_or word 0 0 ≡ 48 → length word ≡ 1 = λ zero. elim (cases_lt 1 (length word)) [ inl more ↦ absurd (first (more, zero)) | inr less ↦ omega arith ] in
    let spelled : word ≡ decimal value = decimal_value word all (omega arith) one (omega arith) ∙ ap decimal (sym value_is) in
    (parted text count within space ∙ ap (λ (w : List ℕ). w ++ 32 ∷ drop (count + 1) text) spelled, omega arith)
