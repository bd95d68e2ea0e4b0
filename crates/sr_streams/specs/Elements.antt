-- BER: elements of a tag, a length and a value (ISO/IEC 8825-1), of one octet of tag and definite lengths below 65536.
use Rattle.std.specs.Prelude.{
  ℕ,
  ◌+◌,
  ◌*◌,
  List,
  [],
  ◌∷◌,
  length,
  take,
  drop,
  nat_le,
  nat_lt,
  ◌==◌,
  Bool,
  false,
  if◌then◌else◌,
  Option,
  Some,
  None,
  option_map,
  option_and_then,
}
use Rattle.sr_streams.specs.Limits.{longest_name}

-- a number in one octet, or in two, the greater first, and what stands behind it
abbrev pub one_octet : List ℕ → Option (ℕ × List ℕ)
one_octet [] = None
one_octet (low ∷ behind) = Some (low, behind)

abbrev pub two_octets : List ℕ → Option (ℕ × List ℕ)
two_octets [] = None
two_octets (high ∷ []) = None
two_octets (high ∷ low ∷ behind) = Some (256 * high + low, behind)

-- a length: itself where it is below 128, or behind 0x81 in one octet, or behind 0x82 in two
abbrev pub len_front : List ℕ → Option (ℕ × List ℕ)
len_front [] = None
len_front (form ∷ behind) =
    if nat_lt form 0x80 then Some (form, behind)
    else if form == 0x81 then one_octet behind
    else if form == 0x82 then two_octets behind
    else None

-- the first octets, so many, and the others
abbrev pub split : ℕ × List ℕ → Option (List ℕ × List ℕ)
split (len, octets) = if nat_le len (length octets) then Some (take len octets, drop len octets) else None

-- whether the first octet is this tag
abbrev pub has_tag : ℕ → List ℕ → Bool
has_tag tag [] = false
has_tag tag (own ∷ behind) = own == tag

-- the value of the element at the front, which has this tag, and what stands behind the element
abbrev pub element : ℕ → List ℕ → Option (List ℕ × List ℕ)
element tag [] = None
element tag (own ∷ behind) = if own == tag then option_and_then split (len_front behind) else None

-- what stands behind such an element
abbrev pub past_element : ℕ → List ℕ → Option (List ℕ)
past_element tag octets = option_map (λ found. found.1) (element tag octets)

-- what stands behind an element that may be left out
abbrev pub behind_any : ℕ → List ℕ → Option (List ℕ)
behind_any tag octets = if has_tag tag octets then past_element tag octets else Some octets

-- the number that four octets spell, the greatest first
abbrev pub in_four : ℕ → ℕ → ℕ → ℕ → ℕ
in_four a b c d = 256 * (256 * (256 * a + b) + c) + d

-- a number in one to four octets, or in five of which the first is zero
abbrev pub ber_number : List ℕ → Option ℕ
ber_number [] = None
ber_number (a ∷ []) = Some a
ber_number (a ∷ b ∷ []) = Some (256 * a + b)
ber_number (a ∷ b ∷ c ∷ []) = Some (256 * (256 * a + b) + c)
ber_number (a ∷ b ∷ c ∷ d ∷ []) = Some (in_four a b c d)
ber_number (zero_octet ∷ a ∷ b ∷ c ∷ d ∷ []) = if zero_octet == 0 then Some (in_four a b c d) else None
ber_number (zero_octet ∷ a ∷ b ∷ c ∷ d ∷ e ∷ more) = None

-- an element that is such a number, and what stands behind it
abbrev pub number_front : ℕ → List ℕ → Option (ℕ × List ℕ)
number_front tag octets =
    option_and_then (λ found. option_map (λ number. (number, found.1)) (ber_number found.0)) (element tag octets)

-- an element that is a name, of at most 129 octets, and what stands behind it
abbrev pub name_front : ℕ → List ℕ → Option (List ℕ × List ℕ)
name_front tag octets =
    option_and_then (λ found. if nat_le (length found.0) longest_name then Some found else None) (element tag octets)
