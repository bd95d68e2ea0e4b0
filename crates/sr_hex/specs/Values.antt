-- The values of hexadecimal digits, by their distances from `9` and from `a`, and the digits of numbers.
use Rattle.std.specs.Prelude.{◌≡◌, ◌+◌, ◌-◌, ◌*◌, ◌/◌, ◌%◌, ◌<◌, ◌≤◌, ℕ, List, length, take, slice_index, bit_or, min}
use Rattle.std.specs.Prelude.{false}
use Rattle.std.specs.List.{AllPass}
use Rattle.hex.specs.Hex.{is_hex_digit, lower_digits}

-- the value of a code from `0` to `9`, and 16 or more for every other code: 198 more modulo 256, which is 255 for `9`,
-- then 6 less, but no less than 0, and 16 more modulo 256
abbrev pub decimal_value : ℕ → ℕ
decimal_value c = ((c + 198) % 256 - 6 + 16) % 256

-- ten more than a code in lower case stands above that of `a`, modulo 256, but no more than 255
abbrev pub above_a : ℕ → ℕ
above_a c = min ((bit_or c 32 + 159) % 256 + 10) 255

-- the value of a digit where the code is one, and 16 or more where it is none
abbrev pub value_of : ℕ → ℕ
value_of c = min (decimal_value c) (above_a c)

-- the octet of two values
abbrev pub octet_of : ℕ → ℕ → ℕ
octet_of high low = (high * 16 % 256 + low) % 256

-- the octet that the digits at two neighbouring places spell
abbrev pub octet_at : List ℕ → ℕ → ℕ
octet_at digits i = octet_of (value_of (slice_index digits (2 * i))) (value_of (slice_index digits (2 * i + 1)))

-- the octets between two places are those that the digits spell
abbrev pub AreSpelled : List ℕ → List ℕ → ℕ → ℕ → Type 0
AreSpelled digits octets from to = (i : ℕ) → from ≤ i → i < to → slice_index octets i ≡ octet_at digits i

-- the codes between two places are digits
abbrev pub AreDigits : List ℕ → ℕ → ℕ → Type 0
AreDigits digits from to = (k : ℕ) → from ≤ k → k < to → value_of (slice_index digits k) < 16

-- the codes from a place on are digits up to the end, where none stands, before thirty-two are over
pub record IsEndAt (text : List ℕ) (from end : ℕ) : Type 0 where
  pub past : from ≤ end
  pub near : end < from + 32
  pub digits : AreDigits text from end
  pub none : 16 ≤ value_of (slice_index text end)

-- the octets before a place are the same
abbrev pub AreKept : List ℕ → List ℕ → ℕ → Type 0
AreKept old new before = (k : ℕ) → k < before → slice_index new k ≡ slice_index old k

-- The codes from a place on are digits up to a later one, what they spell is read there, and the octets before the place are the same.
-- Both places are those of octets.
pub record IsReadTo (text old new : List ℕ) (from to : ℕ) : Type 0 where
  pub long : length new ≡ length old
  pub kept : AreKept old new from
  pub digits : AreDigits text (2 * from) (2 * to)
  pub spelled : AreSpelled text new from to

-- the codes from a place of octets on are digits up to the end, where none stands, and what they spell is read there
pub record IsReadUpTo (text octets : List ℕ) (from end : ℕ) : Type 0 where
  pub past : 2 * from ≤ end
  pub within : end < length text
  pub digits : AreDigits text (2 * from) end
  pub none : 16 ≤ value_of (slice_index text end)
  pub room : end / 2 ≤ length octets
  pub spelled : AreSpelled text octets from (end / 2)

-- all sixteen lanes are less than 16
abbrev pub AreSmall : List ℕ → Type 0
AreSmall v = (i : ℕ) → i < 16 → slice_index v i < 16

-- the digit of a number below 16, in lower case
abbrev pub digit_of : ℕ → ℕ
digit_of n = slice_index lower_digits n

-- the digits of the octets between two places are written
abbrev pub AreWritten : List ℕ → List ℕ → ℕ → ℕ → Type 0
AreWritten octets digits from to = (i : ℕ) → from ≤ i → i < to
    → (slice_index digits (2 * i) ≡ digit_of (slice_index octets i / 16))
    × (slice_index digits (2 * i + 1) ≡ digit_of (slice_index octets i % 16))

-- so many octets at the front of a text are digits, and the next one is none
pub record IsDigitFront (text : List ℕ) (count : ℕ) : Type 0 where
  pub within : count < length text
  pub digits : AllPass is_hex_digit (take count text)
  pub end : is_hex_digit (slice_index text count) ≡ false
