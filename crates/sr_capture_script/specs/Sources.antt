-- A file whose packets are taken one by one.
use Rattle.std.specs.Prelude.{◌≡◌, ℕ, ◌+◌, ◌-◌, ◌^◌, List, [], ◌∷◌, ◌++◌, length, min, Option, Some, None}
use Rattle.sr_capture_file.specs.declared.format.Format.{Format}
use Rattle.sr_capture.specs.declared.packet.Packet.{Packet}
use Rattle.sr_capture.specs.Taking.{Loses, LeavesNone}
use Rattle.sr_capture.specs.declared.fault.CaptureFault.{CaptureFault}
use Rattle.sr_capture.specs.Records.{Captured, Shows}
use Rattle.sr_capture_file.specs.Formats.{front_len, AreTaken, IsNoNext}
use Rattle.sr_capture_script.specs.declared.flaws.FlawCounts.{FlawCounts}
use Rattle.sr_capture_script.specs.Flaws.{flaw_of, tallied, counted, goes_back, with_back}
use Rattle.sr_capture_script.specs.declared.choice.Inlet.{Inlet}
use Rattle.sr_capture_script.specs.Items.{Item, moment_of, items_of}

-- what a reader has left; where there is no file, nothing
abbrev pub left_of : {R : Type 0} → (R → Option (List ℕ)) → Option R → Option (List ℕ)
left_of remaining None = Some []
left_of remaining (Some reader) = remaining reader

-- how far a file was taken: what is known of it, how many octets, its latest moment, the number of its packets, how many are not used,
-- what is due
pub record Progress : Type 0 where
  pub state : Format
  pub place : ℕ
  pub moment : ℕ
  pub number : ℕ
  pub flaws : FlawCounts
  pub due : Option ℕ
  pub shown : Packet

-- the latest moment of packets
abbrev pub last_moment : ℕ → ℕ → List Captured → ℕ
last_moment delay last [] = last
last_moment delay last (packet ∷ packets) = last_moment delay (moment_of delay last packet) packets

-- what is due of a file whose items these are, of which some are gone: the last one, or none and the file is at its end
abbrev pub IsDue : Inlet → Progress → Option ℕ → List Item → List Item → Option (List ℕ) → Option (List ℕ) → Type 0
IsDue inlet p None items gone start now = (items ≡ gone) × LeavesNone start now
IsDue inlet p (Some m) items gone start now = (item : Item) × (items ≡ gone ++ item ∷ []) × (item.inlet ≡ inlet) × (item.moment ≡ m)
    × (p.moment ≡ m) × (p.number ≡ min item.number (2 ^ 64 - 1)) × Shows p.shown item.packet

-- of the packets that the known octets began with, these items are gone, and the next one is due
pub record Feeds (inlet : Inlet) (form : Format) (delay : ℕ) (start now : Option (List ℕ)) (p : Progress) (gone : List Item) : Type 0 where
  pub packets : List Captured
  pub octets : List ℕ
  pub lost : Loses octets start now
  pub records : AreTaken form octets packets p.state
  pub place : p.place ≡ min (front_len form + length octets) (2 ^ 64 - 1)
  pub number : p.number ≡ min (length packets) (2 ^ 64 - 1)
  pub flaws : p.flaws ≡ tallied packets
  pub moment : p.moment ≡ last_moment delay 0 packets
  pub due : IsDue inlet p p.due (items_of inlet delay packets) gone start now

-- one packet more was taken, or the file is at its end
abbrev pub GoesOn : Format → ℕ → Option ℕ → Option (List ℕ) → Option (List ℕ) → Progress → Progress → Type 0
GoesOn state delay None old new p q = (octets : List ℕ) × Loses octets old new × AreTaken state octets [] q.state × LeavesNone old new
    × (q.moment ≡ p.moment) × (q.number ≡ p.number) × (q.place ≡ min (p.place + length octets) (2 ^ 64 - 1)) × (q.flaws ≡ p.flaws)
GoesOn state delay (Some m) old new p q = (octets : List ℕ) × (packet : Captured) × Loses octets old new
    × AreTaken state octets (packet ∷ []) q.state × Shows q.shown packet × (m ≡ moment_of delay p.moment packet)
    × (q.moment ≡ m) × (q.number ≡ min (p.number + 1) (2 ^ 64 - 1)) × (q.place ≡ min (p.place + length octets) (2 ^ 64 - 1))
    × (q.flaws ≡ counted (with_back (goes_back packet.time (packet.time + delay) p.moment) p.flaws) (flaw_of packet))

-- nothing was taken behind the front
pub record IsUntaken (form : Format) (p : Progress) : Type 0 where
  pub state : p.state ≡ form
  pub place : p.place ≡ front_len form
  pub moment : p.moment ≡ 0
  pub number : p.number ≡ 0
  pub flaws : p.flaws ≡ tallied []
  pub due : p.due ≡ None

-- why a file has no next packet, where so many octets were taken
abbrev pub IsStuck : Format → ℕ → CaptureFault → Option (List ℕ) → Option (List ℕ) → Type 0
IsStuck state place fault old new = (own : CaptureFault) × IsNoNext state own old new × (fault.reason ≡ own.reason)
    × (fault.at ≡ min (place + own.at) (2 ^ 64 - 1))

-- of the packets that the octets began with all are gone, and behind them is this fault
pub record IsFaulty (inlet : Inlet) (form : Format) (delay : ℕ) (fault : CaptureFault) (start : Option (List ℕ)) (gone : List Item) : Type 0
  where
    pub packets : List Captured
    pub octets : List ℕ
    pub left : Option (List ℕ)
    pub after : Option (List ℕ)
    pub lost : Loses octets start left
    pub last : Format
    pub records : AreTaken form octets packets last
    pub items : items_of inlet delay packets ≡ gone
    pub stuck : IsStuck last (front_len form + length octets) fault left after
