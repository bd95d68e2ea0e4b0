-- Lists of TLVs, by cases on their front. A TLV is a type octet, a length octet, and that many octets of value.
use Rattle.std.specs.Prelude.{◌≢◌, ℕ, ◌<◌, List, [], ◌∷◌, ◌++◌, length, Option, Some, None, ◌==◌, ◌&&◌, if◌then◌else◌}
use Rattle.std.specs.Option.{option_or}
use Rattle.sr_frame.specs.declared.fields.Mac.{Mac}

-- a TLV of type 30 and length 6 has a RedBox's address
abbrev pub redbox_in : ℕ → List ℕ → Option Mac
redbox_in kind value = if (kind == 30) && (length value == 6) then Some (record { 0 = value }) else None

-- The octets are a list of TLVs, and this is the first RedBox in it. The list ends with the octets, or with a type of 0.
pub data IsTlvs : List ℕ → Option Mac → Type 0 where
  no_more : IsTlvs [] None
  ended : (behind : List ℕ) → IsTlvs (0 ∷ behind) None
  tlv : (kind : ℕ) (value rest : List ℕ) (later : Option Mac) → kind ≢ 0 → IsTlvs rest later →
      IsTlvs (kind ∷ length value ∷ value ++ rest) (option_or (redbox_in kind value) later)

-- The octets end within the head or the value of a TLV.
pub data RunsPast : List ℕ → Type 0 where
  in_head : (kind : ℕ) → kind ≢ 0 → RunsPast (kind ∷ [])
  in_value : (kind len : ℕ) (value : List ℕ) → kind ≢ 0 → length value < len → RunsPast (kind ∷ len ∷ value)
  later : (kind : ℕ) (value rest : List ℕ) → kind ≢ 0 → RunsPast rest → RunsPast (kind ∷ length value ∷ value ++ rest)
