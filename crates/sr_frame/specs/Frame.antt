-- Ethernet frames without check sequence: destination, source, at most one VLAN tag, type, payload.
use Rattle.std.specs.Prelude.{
  ◌≡◌,
  ◌≢◌,
  ℕ,
  ◌+◌,
  ◌-◌,
  ◌^◌,
  ◌<◌,
  ◌≤◌,
  List,
  [],
  ◌∷◌,
  ◌++◌,
  length,
  replicate,
  Option,
  Some,
  None,
  slice_index,
  ◌&&◌,
  ◌==◌,
  if◌then◌else◌,
}
use Rattle.std.specs.Int.{w16, to_be_bytes}

-- the fields of a frame, apart from where they lie in memory
pub record Fields : Type 0 where
  pub dst : List ℕ
  pub src : List ℕ
  pub vlan : Option ℕ
  pub ethertype : ℕ
  pub payload : List ℕ

-- a VLAN tag is 0x8100 and two octets of control
abbrev pub tag_of : Option ℕ → List ℕ
tag_of None = []
tag_of (Some control) = 129 ∷ 0 ∷ to_be_bytes w16 control

-- the octets before the type
abbrev pub head_of : Fields → List ℕ
head_of f = f.dst ++ f.src ++ tag_of f.vlan

-- the octets of the whole frame
abbrev pub spelling : Fields → List ℕ
spelling f = head_of f ++ to_be_bytes w16 f.ethertype ++ f.payload

-- the fields are those of a frame: an untagged one's type is not that of a tag, and at most 1524 octets spell it
pub record IsLegal (f : Fields) : Type 0 where
  pub dst : length f.dst ≡ 6
  pub src : length f.src ≡ 6
  pub vlan : (control : ℕ) → f.vlan ≡ Some control → control < 2 ^ 16
  pub ethertype : f.ethertype < 2 ^ 16
  pub untagged : f.vlan ≡ None → f.ethertype ≢ 0x8100
  pub size : length (spelling f) ≤ 1524

-- each member is an octet
abbrev pub AreOctets : List ℕ → Type 0
AreOctets octets = (i : ℕ) → slice_index octets i < 256

-- the octets are a frame with these fields
pub record IsFrame (octets : List ℕ) (f : Fields) : Type 0 where
  pub legal : IsLegal f
  pub spelled : octets ≡ spelling f
  pub members : AreOctets octets

-- the fewest octets of a frame: 18 where a VLAN tag stands behind the addresses, else 14
abbrev pub least_len : List ℕ → ℕ
least_len octets = if (slice_index octets 12 == 129) && (slice_index octets 13 == 0) then 18 else 14

-- the octets are the frame of some fields, by their length and the type of a tag alone
pub record HasFrameLength (octets : List ℕ) : Type 0 where
  pub least : least_len octets ≤ length octets
  pub most : length octets ≤ 1524

-- the octets, and zeros up to 60, or up to 64 where there is a VLAN tag: the least frame of Ethernet
abbrev pub padded : List ℕ → List ℕ
padded octets = octets ++ replicate (least_len octets + 46 - length octets) 0
