-- The packets of a pcap file: each is a head of 16 octets and then the octets that were captured.
use Rattle.std.specs.Prelude.{
  ◌≡◌,
  ℕ,
  ◌+◌,
  ◌-◌,
  ◌*◌,
  ◌<◌,
  ◌≤◌,
  ◌⊎◌,
  List,
  [],
  ◌∷◌,
  ◌++◌,
  length,
  take,
  nat_lt,
  if◌then◌else◌,
  Option,
  Bool,
  true,
  false,
  IfSome,
}
use Rattle.sr_capture.specs.Limits.{longest_kept}
use Rattle.sr_capture.specs.declared.header.TimeUnit.{TimeUnit}
use Rattle.sr_capture.specs.declared.header.TimeUnit.TheVariants.{Micro, Nano}
use Rattle.sr_capture.specs.declared.fault.CaptureFault.{CaptureFault}
use Rattle.sr_capture.specs.declared.fault.Reason.TheVariants.{Unfinished}
use Rattle.sr_capture.specs.declared.header.Form.{Form}
use Rattle.sr_capture.specs.declared.packet.Extent.{Extent}
use Rattle.sr_capture.specs.declared.packet.Extent.TheVariants.{Whole, Cut}
use Rattle.sr_capture.specs.declared.packet.Packet.{Packet}
use Rattle.sr_capture.specs.declared.packet.Head.{Head}
use Rattle.sr_capture.specs.Numbers.{word_at}
use Rattle.sr_capture.specs.Headers.{IsHeader, IsLack}
use Rattle.sr_capture.specs.Taking.{Loses, LeavesNone}

-- what a file has of a packet: when it came in nanoseconds, whether all of it is there, and its octets without check sequence
pub record Captured : Type 0 where
  pub time : ℕ
  pub extent : Extent
  pub octets : List ℕ

-- how many nanoseconds a unit has
abbrev pub nanoseconds_of : TimeUnit → ℕ
nanoseconds_of Micro = 1000
nanoseconds_of Nano = 1

-- a head has the seconds, the fraction, the number of octets captured and the number of octets that there were
pub record IsHead (form : Form) (octets : List ℕ) (head : Head) : Type 0 where
  pub size : length octets ≡ 16
  pub time : head.time ≡ word_at form.order octets 0 * 1000000000 + word_at form.order octets 4 * nanoseconds_of form.unit
  pub held : head.held ≡ word_at form.order octets 8
  pub extent : head.extent ≡ (if nat_lt (word_at form.order octets 8) (word_at form.order octets 12) then Cut else Whole)

-- the octets are the record of this packet
pub record IsRecord (form : Form) (bytes : List ℕ) (packet : Captured) : Type 0 where
  pub front : List ℕ
  pub head : Head
  pub body : List ℕ
  pub spelled : bytes ≡ front ++ body
  pub is_head : IsHead form front head
  pub size : length body ≡ head.held
  pub time : packet.time ≡ head.time
  pub extent : packet.extent ≡ head.extent
  pub octets : packet.octets ≡ take (length body - form.check_len) body

-- the octets are the beginning of a record: less than its head, or the head and less than the body
abbrev pub IsPart : Form → List ℕ → Type 0
IsPart form octets = (length octets < 16)
    ⊎ ((front : List ℕ) × (head : Head) × (rest : List ℕ) × (octets ≡ front ++ rest) × IsHead form front head × (length rest < head.held))

-- the octets end within a record
abbrev pub EndsEarly : Form → List ℕ → Type 0
EndsEarly form octets = (0 < length octets) × IsPart form octets

-- the reader failed, or memory was refused, behind the beginning of a record
abbrev pub LacksRecord : Form → CaptureFault → Option (List ℕ) → Option (List ℕ) → Type 0
LacksRecord form fault old new = IsLack fault.reason
    × ((octets : List ℕ) × (length octets ≡ fault.at) × Loses octets old new × IsPart form octets)

-- why there is no next packet: a lack, or the file ends within a record, at its first octet
abbrev pub IsNoRecord : Form → CaptureFault → Option (List ℕ) → Option (List ℕ) → Type 0
IsNoRecord form fault old new = LacksRecord form fault old new
    ⊎ ((fault.reason ≡ Unfinished) × (fault.at ≡ 0) × IfSome old (EndsEarly form))

-- a value that shows a packet; the octets of one that is longer than a frame are not kept
pub record Shows (shown : Packet) (packet : Captured) : Type 0 where
  pub time : shown.time ≡ packet.time
  pub extent : shown.extent ≡ packet.extent
  pub len : shown.len ≡ length packet.octets
  pub octets : length packet.octets ≤ longest_kept → shown.octets.items ≡ packet.octets

-- the known octets were a record of the packet that is shown
abbrev pub LosesRecord : Form → Packet → Option (List ℕ) → Option (List ℕ) → Type 0
LosesRecord form shown old new = (octets : List ℕ) × (packet : Captured) × Loses octets old new × IsRecord form octets packet
    × Shows shown packet × (shown.size ≡ length octets)

-- there was nothing
abbrev pub WasAtEnd : Option (List ℕ) → Option (List ℕ) → Type 0
WasAtEnd old new = Loses [] old new × LeavesNone old new

-- a packet was taken, or there was none
abbrev pub TakesPacket : Bool → Form → Packet → Option (List ℕ) → Option (List ℕ) → Type 0
TakesPacket true form shown old new = LosesRecord form shown old new
TakesPacket false form shown old new = WasAtEnd old new

-- the body of a packet was taken, of which so many octets are wanted; or the input ended before
abbrev pub TakesBody : Bool → ℕ → ℕ → List ℕ → Option (List ℕ) → Option (List ℕ) → Type 0
TakesBody true held wanted kept old new = (body : List ℕ) × Loses body old new × (length body ≡ held)
    × (wanted ≤ longest_kept → kept ≡ take wanted body)
TakesBody false held wanted kept old new = (body : List ℕ) × Loses body old new × (length body < held) × LeavesNone old new

-- the octets are the records of these packets, one behind the other
abbrev pub AreRecords : Form → List ℕ → List Captured → Type 0
AreRecords form octets [] = octets ≡ []
AreRecords form octets (packet ∷ packets) = (front : List ℕ) × (rest : List ℕ) × (octets ≡ front ++ rest) × IsRecord form front packet
    × AreRecords form rest packets

-- the octets are a capture of Ethernet with these packets
abbrev pub IsCapture : List ℕ → List Captured → Type 0
IsCapture octets packets = (form : Form) × (front : List ℕ) × (rest : List ℕ) × (octets ≡ front ++ rest) × IsHeader front form
    × AreRecords form rest packets
