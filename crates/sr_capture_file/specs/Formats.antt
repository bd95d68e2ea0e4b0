-- The kinds of files.
use Rattle.std.specs.Prelude.{◌≡◌, ℕ, ◌-◌, ◌^◌, min, List, [], ◌∷◌, length, Option, None, Bool, true, false}
use Rattle.sr_capture.specs.declared.fault.CaptureFault.{CaptureFault}
use Rattle.sr_capture.specs.declared.packet.Packet.{Packet}
use Rattle.sr_capture.specs.Taking.{Loses, LeavesNone}
use Rattle.sr_capture.specs.Records.{Captured, AreRecords, IsNoRecord, Shows}
use Rattle.sr_pcapng.specs.declared.track.Track.{Track}
use Rattle.sr_pcapng.specs.Steps.{AreBlocks, IsNoPacket}
use Rattle.sr_capture_file.specs.declared.format.Format.{Format}
use Rattle.sr_capture_file.specs.declared.format.Format.TheVariants.{Pcap, Pcapng}

-- how many octets stand before the packets: the header of a pcap file
abbrev pub front_len : Format → ℕ
front_len (Pcap form) = 24
front_len (Pcapng track) = 0

-- how many packets a recorder dropped, as far as it was read: a pcap file does not tell
abbrev pub dropped_of : Format → Option ℕ
dropped_of (Pcap form) = None
dropped_of (Pcapng track) = track.dropped

-- the octets have these packets, and behind them this is known: of a pcap file as much as before, of a pcapng file what its blocks told
abbrev pub AreTaken : Format → List ℕ → List Captured → Format → Type 0
AreTaken (Pcap form) octets packets last = AreRecords form octets packets × (last ≡ Pcap form)
AreTaken (Pcapng track) octets packets last = (after : Track) × AreBlocks track octets packets after × (last ≡ Pcapng after)

-- the octets have these packets
abbrev pub HasPackets : Format → List ℕ → List Captured → Type 0
HasPackets form octets packets = (last : Format) × AreTaken form octets packets last

-- why there is no next packet
abbrev pub IsNoNext : Format → CaptureFault → Option (List ℕ) → Option (List ℕ) → Type 0
IsNoNext (Pcap form) fault old new = IsNoRecord form fault old new
IsNoNext (Pcapng track) fault old new = IsNoPacket track fault old new

-- the next packet was taken and is shown, or there is none
abbrev pub TakesOne : Bool → Format → Format → List ℕ → Packet → Option (List ℕ) → Option (List ℕ) → Type 0
TakesOne true state next octets shown old new = (packet : Captured) × AreTaken state octets (packet ∷ []) next × Shows shown packet
TakesOne false state next octets shown old new = AreTaken state octets [] next × LeavesNone old new

-- what was taken, of so many octets
abbrev pub Takes : Bool → Format → Format → Packet → Option (List ℕ) → Option (List ℕ) → Type 0
Takes more state next shown old new = (octets : List ℕ) × Loses octets old new × (shown.size ≡ min (length octets) (2 ^ 64 - 1))
    × TakesOne more state next octets shown old new
