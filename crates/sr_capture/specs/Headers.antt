-- The header of a pcap file, 24 octets: magic number, version 2.4, eight octets of no meaning, snap length, link type.
use Rattle.std.specs.Prelude.{
  ◌≡◌,
  ◌≢◌,
  ℕ,
  ◌*◌,
  ◌/◌,
  ◌%◌,
  ◌^◌,
  ◌<◌,
  ◌≤◌,
  ◌⊎◌,
  List,
  length,
  take,
  slice_index,
  ◌==◌,
  if◌then◌else◌,
  Option,
  IfSome,
}
use Rattle.sr_capture.specs.declared.fault.Reason.{Reason}
use Rattle.sr_capture.specs.declared.fault.Reason.TheVariants as reason
use Rattle.sr_capture.specs.declared.numbers.ByteOrder.{ByteOrder}
use Rattle.sr_capture.specs.declared.numbers.ByteOrder.TheVariants.{Little, Big}
use Rattle.sr_capture.specs.declared.header.TimeUnit.{TimeUnit}
use Rattle.sr_capture.specs.declared.header.TimeUnit.TheVariants.{Micro, Nano}
use Rattle.sr_capture.specs.declared.header.Form.{Form}
use Rattle.sr_capture.specs.declared.fault.CaptureFault.{CaptureFault}
use Rattle.sr_capture.specs.Numbers.{half_at, word_at}
use Rattle.sr_capture.specs.Taking.{Loses, LosesBelow}

-- the first four octets, read with the greatest first
abbrev pub magic_of : ByteOrder → TimeUnit → ℕ
magic_of Big Micro = 0xA1B2C3D4
magic_of Big Nano = 0xA1B23C4D
magic_of Little Micro = 0xD4C3B2A1
magic_of Little Nano = 0x4D3CB2A1

-- the octets begin as a pcap file of this order of octets and this unit of time
abbrev pub HasMagic : List ℕ → ByteOrder → TimeUnit → Type 0
HasMagic octets order unit = (4 ≤ length octets) × (word_at Big octets 0 ≡ magic_of order unit)

-- the version is 2.4
abbrev pub HasVersion : List ℕ → ByteOrder → Type 0
HasVersion octets order = (half_at order octets 4 ≡ 2) × (half_at order octets 6 ≡ 4)

-- how many octets of check sequence stand behind each packet: where bit 26 of the link type is set, the four highest
-- bits count them in pairs
abbrev pub check_len_of : ℕ → ℕ
check_len_of link = if link / 2 ^ 26 % 2 == 1 then 2 * (link / 2 ^ 28) else 0

-- the octets are the header of a capture of Ethernet of this form
pub record IsHeader (octets : List ℕ) (form : Form) : Type 0 where
  pub size : length octets ≡ 24
  pub magic : HasMagic octets form.order form.unit
  pub version : HasVersion octets form.order
  pub link : word_at form.order octets 20 % 2 ^ 16 ≡ 1
  pub check_len : form.check_len ≡ check_len_of (word_at form.order octets 20)

-- the octets begin as what gzip writes
abbrev pub IsCompressed : List ℕ → Type 0
IsCompressed octets = (2 ≤ length octets) × (slice_index octets 0 ≡ 31) × (slice_index octets 1 ≡ 139)

-- a header of at least 24 octets, of this order
abbrev pub HasLength : List ℕ → ByteOrder → Type 0
HasLength octets order = (unit : TimeUnit) × HasMagic octets order unit × (24 ≤ length octets)

-- why the octets at the front of a file, 24 or all that there are, are no header
abbrev pub IsRefused : List ℕ → Reason → Type 0
IsRefused octets reason.Compressed = IsCompressed octets
IsRefused octets reason.Unknown = (IsCompressed octets → ⊥) × ((order : ByteOrder) (unit : TimeUnit) → HasMagic octets order unit → ⊥)
IsRefused octets reason.Short = (order : ByteOrder) × (unit : TimeUnit) × HasMagic octets order unit × (length octets < 24)
IsRefused octets reason.Version = (order : ByteOrder) × HasLength octets order × (HasVersion octets order → ⊥)
IsRefused octets (reason.Link link) = (order : ByteOrder) × HasLength octets order × HasVersion octets order
    × (link ≡ word_at order octets 20 % 2 ^ 16) × (link ≢ 1)
IsRefused octets other = ⊥

-- the offset of the field that is wrong
abbrev pub place_of : Reason → ℕ
place_of reason.Version = 4
place_of (reason.Link link) = 20
place_of other = 0

-- the reader failed, or memory was refused, behind octets that were taken
abbrev pub IsLack : Reason → Type 0
IsLack why = (why ≡ reason.Read) ⊎ (why ≡ reason.NoMemory)

-- a lack behind fewer octets than a header has
abbrev pub LacksHeader : CaptureFault → Option (List ℕ) → Option (List ℕ) → Type 0
LacksHeader fault old new = IsLack fault.reason × ((octets : List ℕ) × (length octets ≡ fault.at) × LosesBelow 24 octets old new)

-- why a file has no header: a lack, or a refusal of what it begins with, at the field that is wrong
abbrev pub IsNoHeader : CaptureFault → Option (List ℕ) → Option (List ℕ) → Type 0
IsNoHeader fault old new = LacksHeader fault old new
    ⊎ ((fault.at ≡ place_of fault.reason) × IfSome old (λ xs. IsRefused (take 24 xs) fault.reason))

-- the known octets were a header of this form
abbrev pub LosesHeader : Form → Option (List ℕ) → Option (List ℕ) → Type 0
LosesHeader form old new = (front : List ℕ) × Loses front old new × IsHeader front form
