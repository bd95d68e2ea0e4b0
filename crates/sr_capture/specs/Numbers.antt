-- Numbers in either order of octets.
use Rattle.std.specs.Prelude.{ℕ, ◌+◌, List, [], ◌∷◌, slice_index}
use Rattle.std.specs.Int.{w16, w32, from_le_bytes, from_be_bytes}
use Rattle.sr_capture.specs.declared.numbers.ByteOrder.{ByteOrder}
use Rattle.sr_capture.specs.declared.numbers.ByteOrder.TheVariants.{Little, Big}

-- two octets from a place on
abbrev pub two_at : List ℕ → ℕ → List ℕ
two_at octets at = slice_index octets at ∷ slice_index octets (at + 1) ∷ []

-- four octets from a place on
abbrev pub four_at : List ℕ → ℕ → List ℕ
four_at octets at = slice_index octets at ∷ slice_index octets (at + 1) ∷ slice_index octets (at + 2) ∷ slice_index octets (at + 3) ∷ []

-- the number of 16 bits there
abbrev pub half_at : ByteOrder → List ℕ → ℕ → ℕ
half_at Little octets at = from_le_bytes w16 (two_at octets at)
half_at Big octets at = from_be_bytes w16 (two_at octets at)

-- the number of 32 bits there
abbrev pub word_at : ByteOrder → List ℕ → ℕ → ℕ
word_at Little octets at = from_le_bytes w32 (four_at octets at)
word_at Big octets at = from_be_bytes w32 (four_at octets at)
