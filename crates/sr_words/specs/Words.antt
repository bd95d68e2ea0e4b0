-- What the words of a line spell.
use Rattle.std.specs.Prelude.{◌≡◌, ℕ, ◌<◌, List, length, All, slice_index, Ok}
use Rattle.hex.specs.Hex.{decode_of}

-- hexadecimal digits of either case, two an octet, of at least one octet
abbrev pub IsHex : List ℕ → List ℕ → Type 0
IsHex digits octets = (decode_of digits ≡ Ok octets) × (0 < length octets)

-- a line that begins with `#`, and is ASCII
abbrev pub IsComment : List ℕ → Type 0
IsComment line = (slice_index line 0 ≡ 35) × All (λ octet. octet < 128) line
