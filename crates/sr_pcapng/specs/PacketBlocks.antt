-- Blocks that are packets.
use Rattle.std.specs.Prelude.{◌≡◌, ℕ, ◌+◌, ◌-◌, ◌*◌, ◌^◌, ◌<◌, ◌≤◌, ◌==◌, ◌⊎◌, min, nat_lt, if◌then◌else◌}
use Rattle.std.specs.Prelude.{List, [], ◌∷◌, length, take, drop, Option, Some, None, Bool, true, false}
use Rattle.sr_capture.specs.declared.fault.Reason.{Reason}
use Rattle.sr_capture.specs.declared.fault.Reason.TheVariants as reason
use Rattle.sr_capture.specs.declared.numbers.ByteOrder.{ByteOrder}
use Rattle.sr_capture.specs.declared.packet.Extent.{Extent}
use Rattle.sr_capture.specs.declared.packet.Extent.TheVariants.{Whole, Cut}
use Rattle.sr_capture.specs.declared.packet.Packet.{Packet}
use Rattle.sr_capture.specs.Numbers.{half_at, word_at}
use Rattle.sr_capture.specs.Limits.{longest_kept}
use Rattle.sr_capture.specs.Records.{Captured, Shows}
use Rattle.sr_pcapng.specs.declared.track.Interface.{Interface}
use Rattle.sr_pcapng.specs.declared.track.Section.{Section}
use Rattle.sr_pcapng.specs.declared.track.Wanted.{Wanted}
use Rattle.sr_pcapng.specs.declared.track.Wanted.TheVariants.{Only, Number}
use Rattle.sr_pcapng.specs.Options.{padded}
use Rattle.sr_pcapng.specs.Times.{IsTime}

-- whether all of a packet's octets are held
abbrev pub extent_of : ℕ → ℕ → Extent
extent_of held len = if nat_lt held len then Cut else Whole

-- the octets of a packet that stand from a place on, without check sequence
abbrev pub body_at : ℕ → ℕ → ℕ → List ℕ → List ℕ
body_at at held check octets = take (held - check) (drop at octets)

-- so many octets, those that fill up four and the length at the end fit behind this place
abbrev pub Holds : ℕ → ℕ → List ℕ → Type 0
Holds at held octets = at + padded held + 4 ≤ length octets

-- how many octets a simple packet holds: all, up to the snap length, if there is one
abbrev pub held_of : ℕ → ℕ → ℕ
held_of snap len = if snap == 0 then len else min len snap

-- a packet with a time: behind the number of the interface stand the time in two words, how many octets are held, how many there were,
-- and the octets
pub record IsTimedPacket (interface : Interface) (order : ByteOrder) (octets : List ℕ) (packet : Captured) : Type 0 where
  pub holds : Holds 28 (word_at order octets 20) octets
  pub time : IsTime interface (word_at order octets 12 * 2 ^ 32 + word_at order octets 16) packet.time
  pub extent : packet.extent ≡ extent_of (word_at order octets 20) (word_at order octets 24)
  pub body : packet.octets ≡ body_at 28 (word_at order octets 20) interface.check_len octets

-- a simple packet: how many octets there were, and the octets; it has no time, and it is of interface 0
pub record IsSimple (interface : Interface) (order : ByteOrder) (octets : List ℕ) (packet : Captured) : Type 0 where
  pub holds : Holds 12 (held_of interface.snap (word_at order octets 8)) octets
  pub time : packet.time ≡ 0
  pub extent : packet.extent ≡ extent_of (held_of interface.snap (word_at order octets 8)) (word_at order octets 8)
  pub body : packet.octets ≡ body_at 12 (held_of interface.snap (word_at order octets 8)) interface.check_len octets

-- the interface that was taken, if it has this number
abbrev pub of_number : Option Interface → ℕ → Option Interface
of_number None number = None
of_number (Some interface) number = if interface.number == number then Some interface else None

-- it can be told whether a packet is wanted: a number was said, or an interface was found
abbrev pub IsTold : Wanted → Option Interface → Type 0
IsTold Only None = ⊥
IsTold Only (Some interface) = Unit {0}
IsTold (Number number) taken = Unit {0}

-- the packet of a block, if the interface is wanted
abbrev pub ShowsTimed : Option Interface → ByteOrder → List ℕ → List Captured → Type 0
ShowsTimed None order octets shown = shown ≡ []
ShowsTimed (Some interface) order octets shown = (packet : Captured) × (shown ≡ packet ∷ []) × IsTimedPacket interface order octets packet

abbrev pub ShowsSimple : Option Interface → ByteOrder → List ℕ → List Captured → Type 0
ShowsSimple None order octets shown = shown ≡ []
ShowsSimple (Some interface) order octets shown = (packet : Captured) × (shown ≡ packet ∷ []) × IsSimple interface order octets packet

-- the octets are a packet in this section, of the interface of this number, which it has described
abbrev pub InTimed : ℕ → Wanted → Section → List ℕ → List Captured → Type 0
InTimed number wanted section octets shown = (32 ≤ length octets) × (number < section.count)
    × IsTold wanted section.taken
    × ShowsTimed (of_number section.taken number) section.order octets shown

-- the number of an interface is a word in an enhanced packet
abbrev pub InEnhanced : Wanted → Section → List ℕ → List Captured → Type 0
InEnhanced wanted section octets shown = InTimed (word_at section.order octets 8) wanted section octets shown

-- in an obsolete packet it is half of one; a count of packets that were dropped stands behind it, and says nothing here
abbrev pub InObsolete : Wanted → Section → List ℕ → List Captured → Type 0
InObsolete wanted section octets shown = InTimed (half_at section.order octets 8) wanted section octets shown

abbrev pub InSimple : Wanted → Section → List ℕ → List Captured → Type 0
InSimple wanted section octets shown = (16 ≤ length octets) × (0 < section.count) × IsTold wanted section.taken
    × ShowsSimple (of_number section.taken 0) section.order octets shown

-- a packet whose octets do not fit into its block
abbrev pub OverflowsTimed : ℕ → Section → List ℕ → Type 0
OverflowsTimed number section octets = (number < section.count)
    × ((interface : Interface) × (of_number section.taken number ≡ Some interface)
    × (Holds 28 (word_at section.order octets 20) octets → ⊥))

abbrev pub OverflowsSimple : Section → List ℕ → Type 0
OverflowsSimple section octets = (0 < section.count) × ((interface : Interface) × (of_number section.taken 0 ≡ Some interface)
    × (Holds 12 (held_of interface.snap (word_at section.order octets 8)) octets → ⊥))

-- a packet that is wanted and fits into its block, and that a frame can be as long as: memory is asked for it alone
abbrev pub KeepsTimed : ℕ → Section → List ℕ → Type 0
KeepsTimed number section octets = (32 ≤ length octets) × (number < section.count)
    × ((interface : Interface) × (of_number section.taken number ≡ Some interface)
    × Holds 28 (word_at section.order octets 20) octets
    × (word_at section.order octets 20 - interface.check_len ≤ longest_kept))

abbrev pub KeepsSimple : Section → List ℕ → Type 0
KeepsSimple section octets = (16 ≤ length octets) × (0 < section.count)
    × ((interface : Interface) × (of_number section.taken 0 ≡ Some interface)
    × Holds 12 (held_of interface.snap (word_at section.order octets 8)) octets
    × (held_of interface.snap (word_at section.order octets 8) - interface.check_len ≤ longest_kept))

-- why a packet is refused: its block is too short for it, its interface is not described, or none is known and none was said; or memory
-- was, for one that is kept
abbrev pub IsWrongTimed : ℕ → Wanted → Section → List ℕ → Reason → Type 0
IsWrongTimed number wanted section octets reason.Length = (length octets < 32) ⊎ OverflowsTimed number section octets
IsWrongTimed number wanted section octets reason.Undescribed = (32 ≤ length octets) × (section.count ≤ number)
IsWrongTimed number wanted section octets reason.NoEthernet = (32 ≤ length octets) × (number < section.count)
    × (wanted ≡ Only) × (section.taken ≡ None)
IsWrongTimed number wanted section octets reason.NoMemory = KeepsTimed number section octets
IsWrongTimed number wanted section octets other = ⊥

abbrev pub IsWrongEnhanced : Wanted → Section → List ℕ → Reason → Type 0
IsWrongEnhanced wanted section octets why = IsWrongTimed (word_at section.order octets 8) wanted section octets why

abbrev pub IsWrongObsolete : Wanted → Section → List ℕ → Reason → Type 0
IsWrongObsolete wanted section octets why = IsWrongTimed (half_at section.order octets 8) wanted section octets why

abbrev pub IsWrongSimple : Wanted → Section → List ℕ → Reason → Type 0
IsWrongSimple wanted section octets reason.Length = (length octets < 16) ⊎ OverflowsSimple section octets
IsWrongSimple wanted section octets reason.Undescribed = (16 ≤ length octets) × (section.count ≡ 0)
IsWrongSimple wanted section octets reason.NoEthernet = (16 ≤ length octets) × (0 < section.count)
    × (wanted ≡ Only) × (section.taken ≡ None)
IsWrongSimple wanted section octets reason.NoMemory = KeepsSimple section octets
IsWrongSimple wanted section octets other = ⊥

-- a packet is shown, or there is none
abbrev pub Gives : Bool → List Captured → Packet → Type 0
Gives true shown packet = (captured : Captured) × (shown ≡ captured ∷ []) × Shows packet captured
Gives false shown packet = shown ≡ []
