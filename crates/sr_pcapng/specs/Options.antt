-- The options of the description of an interface: each has a code, the length of its value, the value, and octets that fill up four.
use Rattle.std.specs.Prelude.{◌≡◌, ◌≢◌, ℕ, ◌+◌, ◌-◌, ◌*◌, ◌%◌, ◌^◌, ◌≤◌, ◌⊎◌, ◌==◌, if◌then◌else◌}
use Rattle.std.specs.Prelude.{List, [], ◌∷◌, ◌++◌, length, take, slice_index}
use Rattle.std.specs.Int.{cast_signed, w64}
use Rattle.sr_capture.specs.declared.numbers.ByteOrder.{ByteOrder}
use Rattle.sr_capture.specs.declared.numbers.ByteOrder.TheVariants.{Little, Big}
use Rattle.sr_capture.specs.Numbers.{half_at, word_at}
use Rattle.sr_pcapng.specs.declared.track.Interface.{Interface}
use Rattle.sr_pcapng.specs.declared.options.Front.{Front}
use Rattle.sr_pcapng.specs.declared.options.Front.TheVariants.{End, Whole, Broken}

-- the number of 64 bits from a place on
abbrev pub long_at : ByteOrder → List ℕ → ℕ → ℕ
long_at Little octets at = word_at Little octets (at + 4) * 2 ^ 32 + word_at Little octets at
long_at Big octets at = word_at Big octets at * 2 ^ 32 + word_at Big octets (at + 4)

-- so many octets with those that fill up four
abbrev pub padded : ℕ → ℕ
padded len = len + (4 - len % 4) % 4

-- a value of this length is one of this code: units of times and lengths of check sequences have an octet, offsets eight
pub record Fits (code len : ℕ) : Type 0 where
  pub resolution : code ≡ 9 → len ≡ 1
  pub check_len : code ≡ 13 → len ≡ 1
  pub offset : code ≡ 14 → len ≡ 8

-- the octets are an option of this order
pub record IsOption (order : ByteOrder) (octets : List ℕ) : Type 0 where
  pub size : length octets ≡ 4 + padded (half_at order octets 2)
  pub code : half_at order octets 0 ≢ 0
  pub value : Fits (half_at order octets 0) (half_at order octets 2)

-- options end where nothing is left, or where code 0 says so
abbrev pub IsEnd : ByteOrder → List ℕ → Type 0
IsEnd order octets = (octets ≡ []) ⊎ ((4 ≤ length octets) × (half_at order octets 0 ≡ 0))

-- what an option tells of an interface
abbrev pub told : ByteOrder → List ℕ → Interface → Interface
told order option interface =
    if half_at order option 0 == 9 then record interface { resolution = slice_index option 4 }
    else if half_at order option 0 == 13 then record interface { check_len = slice_index option 4 }
    else if half_at order option 0 == 14 then record interface { offset = cast_signed w64 (long_at order option 4) }
    else interface

-- the octets are these options, and with them an interface is known so
abbrev pub Reads : ByteOrder → List ℕ → Interface → List (List ℕ) → Interface → Type 0
Reads order octets interface [] known = IsEnd order octets × (known ≡ interface)
Reads order octets interface (option ∷ options) known = (rest : List ℕ) × (octets ≡ option ++ rest) × IsOption order option
    × Reads order rest (told order option interface) options known

-- what stands at the front of octets: the end of options, an option of so many octets, or neither
abbrev pub IsFront : ByteOrder → List ℕ → Front → Type 0
IsFront order octets End = (4 ≤ length octets) × (half_at order octets 0 ≡ 0)
IsFront order octets (Whole size) = (size ≤ length octets) × IsOption order (take size octets)
IsFront order octets Broken = ((4 ≤ length octets) × (half_at order octets 0 ≡ 0) → ⊥)
    × ((option rest : List ℕ) → octets ≡ option ++ rest → IsOption order option → ⊥)
