-- Blocks, one behind the other, and the packets of the interface that is wanted.
use Rattle.std.specs.Prelude.{
  ◌≡◌,
  ◌≢◌,
  ℕ,
  ◌+◌,
  ◌-◌,
  ◌^◌,
  ◌<◌,
  ◌≤◌,
  ◌⊎◌,
  min,
  List,
  [],
  ◌∷◌,
  ◌++◌,
  length,
  Option,
  Some,
  None,
  Bool,
  true,
  false,
}
use Rattle.sr_capture.specs.declared.fault.CaptureFault.{CaptureFault}
use Rattle.sr_capture.specs.declared.fault.Reason.{Reason}
use Rattle.sr_capture.specs.declared.fault.Reason.TheVariants as reason
use Rattle.sr_capture.specs.declared.numbers.ByteOrder.{ByteOrder}
use Rattle.sr_capture.specs.declared.packet.Packet.{Packet}
use Rattle.sr_capture.specs.Numbers.{half_at}
use Rattle.sr_capture.specs.Records.{Captured, Shows, WasAtEnd}
use Rattle.sr_capture.specs.Taking.{Loses, LeavesNone}
use Rattle.sr_pcapng.specs.declared.block.Kind.{Kind}
use Rattle.sr_pcapng.specs.declared.block.Kind.TheVariants as kind
use Rattle.sr_pcapng.specs.declared.packets.Step.{Step}
use Rattle.sr_pcapng.specs.declared.packets.Step.TheVariants as step
use Rattle.sr_pcapng.specs.declared.track.Section.{Section}
use Rattle.sr_pcapng.specs.declared.track.Track.{Track}
use Rattle.sr_pcapng.specs.Blocks.{kind_of, IsBlock, IsNoBlock}
use Rattle.sr_pcapng.specs.Interfaces.{Describes, IsWrongInterface}
use Rattle.sr_pcapng.specs.Listing.{TellsAll}
use Rattle.sr_pcapng.specs.PacketBlocks.{InEnhanced, InObsolete, InSimple, IsWrongEnhanced, IsWrongObsolete, IsWrongSimple}
use Rattle.sr_pcapng.specs.Statistics.{dropped_in}

-- the order of octets of a section, if there is one
abbrev pub order_in : Option Section → Option ByteOrder
order_in None = None
order_in (Some section) = Some section.order

-- a section that has described no interface
abbrev pub begun : ByteOrder → Section
begun order = record { order = order; count = 0; taken = None }

-- the track in another section, or in the same one with more interfaces
abbrev pub in_section : Track → Section → Track
in_section track section = record {
  wanted = track.wanted;
  check_len = track.check_len;
  section = Some section;
  dropped = track.dropped;
}

-- the track with what statistics say of dropped packets, where they say it
abbrev pub with_dropped : Track → Option ℕ → Track
with_dropped track None = track
with_dropped track (Some count) = record {
  wanted = track.wanted;
  check_len = track.check_len;
  section = track.section;
  dropped = Some count;
}

-- a section header: the length of the section, which says nothing here, and before it the order and version 1
abbrev pub IsHeader : ByteOrder → List ℕ → Type 0
IsHeader order octets = (28 ≤ length octets) × (half_at order octets 12 ≡ 1)

-- what a block of a kind means in the section that it stands in
abbrev pub MeansWithin : Kind → Track → Section → List ℕ → List Captured → Track → Type 0
MeansWithin kind.Interface track section octets shown next = (shown ≡ [])
    × ((after : Section) × Describes track.wanted track.check_len section octets after × (next ≡ in_section track after))
MeansWithin kind.Enhanced track section octets shown next = (next ≡ track) × InEnhanced track.wanted section octets shown
MeansWithin kind.Obsolete track section octets shown next = (next ≡ track) × InObsolete track.wanted section octets shown
MeansWithin kind.Simple track section octets shown next = (next ≡ track) × InSimple track.wanted section octets shown
MeansWithin kind.Statistics track section octets shown next = (shown ≡ []) × (next ≡ with_dropped track (dropped_in section octets))
MeansWithin kind.Other track section octets shown next = (next ≡ track) × (shown ≡ [])
MeansWithin kind.Section track section octets shown next = ⊥

-- what a block means: which packet it shows, if any, and what is known behind it
abbrev pub Means : Kind → Track → ByteOrder → List ℕ → List Captured → Track → Type 0
Means kind.Section track order octets shown next = IsHeader order octets × (shown ≡ []) × (next ≡ in_section track (begun order))
Means other track order octets shown next = (section : Section) × (track.section ≡ Some section)
    × MeansWithin other track section octets shown next

-- the octets are a block that shows these packets, one or none
abbrev pub IsStep : Track → List ℕ → List Captured → Track → Type 0
IsStep track octets shown next = (order : ByteOrder) × IsBlock (order_in track.section) octets order
    × Means (kind_of order octets) track order octets shown next

-- the octets are blocks, one behind the other, that show these packets
abbrev pub Follow : List (List ℕ) → Track → List ℕ → List Captured → Track → Type 0
Follow [] track octets shown last = (octets ≡ []) × (shown ≡ []) × (last ≡ track)
Follow (block ∷ blocks) track octets shown last = (rest : List ℕ) × (own : List Captured) × (more : List Captured) × (next : Track)
    × (octets ≡ block ++ rest) × (shown ≡ own ++ more) × IsStep track block own next × Follow blocks next rest more last

-- behind what a track knows, the octets have these packets of the interface that is wanted, and leave what another track knows
abbrev pub AreBlocks : Track → List ℕ → List Captured → Track → Type 0
AreBlocks track octets shown last = (blocks : List (List ℕ)) × Follow blocks track octets shown last

-- why a header of a section is refused: it is too short, or its version is not 1
abbrev pub IsWrongSection : ByteOrder → List ℕ → Reason → Type 0
IsWrongSection order octets reason.Length = length octets < 28
IsWrongSection order octets reason.Version = (28 ≤ length octets) × (half_at order octets 12 ≢ 1)
IsWrongSection order octets other = ⊥

abbrev pub IsWrongWithin : Kind → Track → Section → List ℕ → Reason → Type 0
IsWrongWithin kind.Interface track section octets why = IsWrongInterface track.wanted track.check_len section octets why
IsWrongWithin kind.Enhanced track section octets why = IsWrongEnhanced track.wanted section octets why
IsWrongWithin kind.Obsolete track section octets why = IsWrongObsolete track.wanted section octets why
IsWrongWithin kind.Simple track section octets why = IsWrongSimple track.wanted section octets why
IsWrongWithin rest track section octets why = ⊥

-- why a block is refused
abbrev pub IsWrong : Kind → Track → ByteOrder → List ℕ → Reason → Type 0
IsWrong kind.Section track order octets why = IsWrongSection order octets why
IsWrong other track order octets why = (section : Section) × (track.section ≡ Some section) × IsWrongWithin other track section octets why

-- where in a block the field is that is wrong: its version, its link type, or all of it
abbrev pub place_of : Reason → ℕ
place_of reason.Version = 12
place_of (reason.Link link) = 8
place_of other = 0

-- a block is refused; where it describes a second interface that is Ethernet, all of its section that are Ethernet are told
abbrev pub RefusesBlock : Track → CaptureFault → Option (List ℕ) → Option (List ℕ) → Type 0
RefusesBlock track fault old new = (own : Reason) × (fault.at ≡ place_of own)
    × ((octets : List ℕ) × (order : ByteOrder) × (left : Option (List ℕ)) × Loses octets old left
    × IsBlock (order_in track.section) octets order × IsWrong (kind_of order octets) track order octets own
    × TellsAll track.section own fault.reason left new)

-- why there is no next block that means something
abbrev pub IsNoStep : Track → CaptureFault → Option (List ℕ) → Option (List ℕ) → Type 0
IsNoStep track fault old new = IsNoBlock (order_in track.section) fault old new ⊎ RefusesBlock track fault old new

-- a block of so many octets was taken that shows a packet or none, or nothing was left
abbrev pub TakesStep : Step → Track → Track → Packet → Option (List ℕ) → Option (List ℕ) → Type 0
TakesStep step.End track next packet old new = WasAtEnd old new × (next ≡ track)
TakesStep (step.Passed size) track next packet old new = (octets : List ℕ) × (length octets ≡ size) × Loses octets old new
    × IsStep track octets [] next
TakesStep (step.Packet size) track next packet old new = (octets : List ℕ) × (length octets ≡ size) × Loses octets old new
    × ((captured : Captured) × IsStep track octets (captured ∷ []) next × Shows packet captured)

-- the blocks up to the next packet were taken, or all that were left, and none of them shows one
abbrev pub TakesNext : Bool → Track → Track → List ℕ → Packet → Option (List ℕ) → Option (List ℕ) → Type 0
TakesNext true track next octets packet old new = (captured : Captured) × AreBlocks track octets (captured ∷ []) next
    × Shows packet captured
TakesNext false track next octets packet old new = AreBlocks track octets [] next × LeavesNone old new

-- what was taken, of so many octets
abbrev pub Takes : Bool → Track → Track → Packet → Option (List ℕ) → Option (List ℕ) → Type 0
Takes more track next packet old new = (octets : List ℕ) × Loses octets old new × (packet.size ≡ min (length octets) (2 ^ 64 - 1))
    × TakesNext more track next octets packet old new

-- blocks without a packet, and behind them no next one
pub record Stops (track : Track) (fault : CaptureFault) (old new : Option (List ℕ)) : Type 0 where
  pub octets : List ℕ
  pub left : Option (List ℕ)
  pub last : Track
  pub own : CaptureFault
  pub lost : Loses octets old left
  pub blocks : AreBlocks track octets [] last
  pub stuck : IsNoStep last own left new
  pub why : fault.reason ≡ own.reason
  pub where_is : fault.at ≡ min (length octets + own.at) (2 ^ 64 - 1)

-- 2^64 - 1 blocks or more, without a packet
abbrev pub IsEndless : Track → CaptureFault → Option (List ℕ) → Option (List ℕ) → Type 0
IsEndless track fault old new = (fault.reason ≡ reason.Endless) × (fault.at ≡ 2 ^ 64 - 1) × ((octets : List ℕ) × (last : Track)
    × Loses octets old new × AreBlocks track octets [] last × (2 ^ 64 - 1 ≤ length octets))

-- why there is no next packet
abbrev pub IsNoPacket : Track → CaptureFault → Option (List ℕ) → Option (List ℕ) → Type 0
IsNoPacket track fault old new = Stops track fault old new ⊎ IsEndless track fault old new
