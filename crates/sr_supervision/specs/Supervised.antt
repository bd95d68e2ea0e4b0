-- Supervision frames: relations between values and whole lists of octets.
use Rattle.std.specs.Prelude.{◌≡◌, ℕ, ◌+◌, ◌*◌, ◌^◌, ◌<◌, ◌≤◌, ◌⊎◌, List, [], ◌∷◌, ◌++◌, length, take}
use Rattle.std.specs.Int.{w16, to_be_bytes}
use Rattle.sr_frame.specs.Frame.{Fields, IsLegal, spelling}
use Rattle.sr_frame.specs.declared.fields.Mac.{Mac}
use Rattle.sr_supervision.specs.declared.message.Life.{Life}
use Rattle.sr_supervision.specs.declared.message.Life.TheVariants.{Hsr, PrpDiscard, PrpAccept, Announce}
use Rattle.sr_supervision.specs.declared.message.Supervision.{Supervision}
use Rattle.sr_supervision.specs.Tlvs.{IsTlvs, RunsPast}

-- where supervision frames go
abbrev pub supervision_address : List ℕ
supervision_address = 0x01 ∷ 0x15 ∷ 0x4E ∷ 0x00 ∷ 0x01 ∷ 0x00 ∷ []

-- destination and type are those of supervision
pub record IsAddressed (f : Fields) : Type 0 where
  pub dst : f.dst ≡ supervision_address
  pub ethertype : f.ethertype ≡ 0x88FB

-- the type of the first TLV
abbrev pub life_type : Life → ℕ
life_type Hsr = 23
life_type PrpDiscard = 20
life_type PrpAccept = 21
life_type Announce = 22

-- a payload begins with a path of 4 bits and a version of 12, and a number; these octets stand behind
pub record Starts (payload : List ℕ) (version seq : ℕ) (behind : List ℕ) : Type 0 where
  pub path : ℕ
  pub path_fits : path < 16
  pub version_fits : version < 4096
  pub seq_fits : seq < 2 ^ 16
  pub spelled : payload ≡ to_be_bytes w16 (path * 4096 + version) ++ to_be_bytes w16 seq ++ behind

-- the type is one of 20 to 23, and the length 6 or 12
pub record IsFirstHead (kind len : ℕ) : Type 0 where
  pub life : Life
  pub is_type : kind ≡ life_type life
  pub size : (len ≡ 6) ⊎ (len ≡ 12)

-- the first TLV, whose first six octets are the address, and what stands behind it
pub record IsFirstTlv (octets : List ℕ) (life : Life) (mac : Mac) (rest : List ℕ) : Type 0 where
  pub value : List ℕ
  pub spelled : octets ≡ life_type life ∷ length value ∷ value ++ rest
  pub size : (length value ≡ 6) ⊎ (length value ≡ 12)
  pub address : mac.0 ≡ take 6 value

-- the payload says this
pub record Says (payload : List ℕ) (s : Supervision) : Type 0 where
  pub version : ℕ
  pub behind : List ℕ
  pub rest : List ℕ
  pub start : Starts payload version s.seq.0 behind
  pub known : version ≤ 1
  pub first : IsFirstTlv behind s.life s.mac rest
  pub tlvs : IsTlvs rest s.redbox

-- the octets are a frame that says this
pub record IsSupervision (octets : List ℕ) (s : Supervision) : Type 0 where
  pub fields : Fields
  pub legal : IsLegal fields
  pub spelled : octets ≡ spelling fields
  pub addressed : IsAddressed fields
  pub content : Says fields.payload s

-- the version is above 1
pub record HasOtherVersion (payload : List ℕ) : Type 0 where
  pub version : ℕ
  pub seq : ℕ
  pub behind : List ℕ
  pub start : Starts payload version seq behind
  pub above : 1 < version

-- there is the head of a TLV, and it is not that of a first one
pub record HasOtherHead (octets : List ℕ) : Type 0 where
  pub kind : ℕ
  pub len : ℕ
  pub rest : List ℕ
  pub spelled : octets ≡ kind ∷ len ∷ rest
  pub other : IsFirstHead kind len → ⊥

-- the version is read, but the first TLV is another one
pub record HasOtherFirst (payload : List ℕ) : Type 0 where
  pub version : ℕ
  pub seq : ℕ
  pub behind : List ℕ
  pub start : Starts payload version seq behind
  pub known : version ≤ 1
  pub head : HasOtherHead behind

-- the octets end within the head of the first TLV, or within its value
pub data IsCutShort (octets : List ℕ) : Type 0 where
  in_head : length octets < 2 → IsCutShort octets
  in_value : (kind len : ℕ) (rest : List ℕ) → octets ≡ kind ∷ len ∷ rest → IsFirstHead kind len → length rest < len → IsCutShort octets

-- the payload ends within its start, the first TLV or a later one
pub data EndsEarly (payload : List ℕ) : Type 0 where
  in_start : length payload < 4 → EndsEarly payload
  in_first : (version seq : ℕ) (behind : List ℕ) → Starts payload version seq behind → version ≤ 1 → IsCutShort behind → EndsEarly payload
  in_later : (version seq : ℕ) (behind rest : List ℕ) (life : Life) (mac : Mac) → Starts payload version seq behind → version ≤ 1 →
      IsFirstTlv behind life mac rest → RunsPast rest → EndsEarly payload
