-- How text from outside stands in a page.
use Rattle.std.specs.Prelude.{◌≢◌, ℕ, ◌/◌, ◌%◌, nat_le, Bool, ◌||◌, ◌&&◌, ◌==◌, List, [], ◌∷◌, ◌++◌}
use Rattle.std.specs.Prelude.{codes, encode_utf8, chars, if◌then◌else◌}
use Rattle.std.specs.Char.{digit_char}
use Rattle.std.specs.List.{All, flat_map}

abbrev pub lies_within : ℕ → ℕ → ℕ → Bool
lies_within first last c = nat_le first c && nat_le c last

-- characters of Unicode at which ranges of such begin and end that show nothing, or turn the direction of writing
abbrev pub zero_width_space : ℕ
zero_width_space = 0x200b

abbrev pub right_to_left_mark : ℕ
right_to_left_mark = 0x200f

abbrev pub line_separator : ℕ
line_separator = 0x2028

abbrev pub right_to_left_override : ℕ
right_to_left_override = 0x202e

abbrev pub word_joiner : ℕ
word_joiner = 0x2060

abbrev pub nominal_digit_shapes : ℕ
nominal_digit_shapes = 0x206f

-- controls
abbrev pub is_control : ℕ → Bool
is_control c = lies_within 0 31 c || lies_within 127 159 c

-- it shows nothing, or turns the direction of what stands beside it
abbrev pub is_hidden : ℕ → Bool
is_hidden c = is_control c || (lies_within zero_width_space right_to_left_mark c
    || (lies_within line_separator right_to_left_override c || lies_within word_joiner nominal_digit_shapes c))

-- the last four hexadecimal digits of a number
abbrev pub four_digits : ℕ → List ℕ
four_digits c = digit_char (c / 4096 % 16) ∷ digit_char (c / 256 % 16) ∷ digit_char (c / 16 % 16) ∷ digit_char (c % 16) ∷ []

-- how a character is spelled: five of them have a meaning in HTML, and stand as references; a hidden one stands by its number
abbrev pub spelled_char : ℕ → List ℕ
spelled_char c =
    if c == 38 then codes "&amp;" else (
    if c == 60 then codes "&lt;" else (
    if c == 62 then codes "&gt;" else (
    if c == 34 then codes "&quot;" else (
    if c == 39 then codes "&#39;" else (
    if is_hidden c then codes "\\u{" ++ (four_digits c ++ codes "}") else encode_utf8 c)))))

-- how a text is spelled
abbrev pub spelled_text : List ℕ → List ℕ
spelled_text text = flat_map spelled_char (chars text)

-- it begins or ends no tag and no value of an attribute
abbrev pub IsPlain : ℕ → Type 0
IsPlain octet = (octet ≢ 60) × (octet ≢ 62) × (octet ≢ 34) × (octet ≢ 39)

-- no tag begins in a text, and no value of an attribute ends in it
abbrev pub AreWithoutMarkup : List ℕ → Type 0
AreWithoutMarkup text = All IsPlain text
