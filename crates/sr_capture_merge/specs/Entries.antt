-- What is written of a packet.
use Rattle.std.specs.Prelude.{ℕ, ◌+◌, ◌-◌, ◌^◌, min, List, [], ◌∷◌, length, take, Bool, true, false, Option, if◌then◌else◌}
use Rattle.sr_audit.specs.declared.side.Side.{Side}
use Rattle.sr_audit.specs.declared.side.Side.TheVariants as side
use Rattle.sr_capture_audit.specs.declared.network.Network.{Network}
use Rattle.sr_capture_audit.specs.declared.network.Network.TheVariants.{Prp, Hsr}
use Rattle.sr_capture_merge.specs.declared.plan.Plan.{Plan}
use Rattle.sr_capture_merge.specs.declared.plan.Scope.{Scope}
use Rattle.sr_capture_merge.specs.declared.plan.Scope.TheVariants.{All, Lost}
use Rattle.sr_capture_merge.specs.Remarks.{remark_of}
use Rattle.sr_merge.specs.declared.waiting.Verdict.{Verdict}
use Rattle.sr_merge.specs.Merging.{Read}
use Rattle.sr_pcapng.specs.declared.lanes.Lane.{Lane}
use Rattle.sr_pcapng.specs.declared.lanes.Lane.TheVariants as lane
use Rattle.sr_pcapng.specs.declared.lanes.Names.{Names}
use Rattle.sr_pcapng.specs.declared.lanes.Names.TheVariants as names
use Rattle.sr_pcapng.specs.Writing.{Written, packet_block}

-- the interfaces: lan-a and lan-b, or ring-a and ring-b
abbrev pub names_of : Network → Names
names_of Prp = names.Lan
names_of Hsr = names.Ring

-- the interface of a side
abbrev pub side_interface : Side → Lane
side_interface side.A = lane.A
side_interface side.B = lane.B

-- the most octets of a packet and of a comment
abbrev pub most_written : ℕ
most_written = 65535

-- the time of a packet that came so much behind the earliest one, without what all times were put off: at most the latest that a file tells
abbrev pub written_time : ℕ → ℕ → ℕ → ℕ
written_time start early time = min (min (start + time) (2 ^ 64 - 1) - early) (2 ^ 63 - 1)

-- the octets of a list up to the most
abbrev pub first_octets : List ℕ → List ℕ
first_octets octets = take (min (length octets) most_written) octets

-- a packet with a comment, as it is written
abbrev pub entry_of : ℕ → ℕ → List ℕ → Read → Written
entry_of start early comment p = record {
  lane = side_interface p.came.side;
  time = written_time start early p.came.time;
  len = length (first_octets p.octets);
  octets = first_octets p.octets;
  comment = first_octets comment;
}

-- whether a packet with this comment is written
abbrev pub is_shown : Scope → List ℕ → Bool
is_shown All comment = true
is_shown Lost [] = false
is_shown Lost (c ∷ cs) = true

-- the block of a packet with a comment
unfoldable pub entry_block : ℕ → ℕ → List ℕ → Read → List ℕ
entry_block start early comment p = packet_block (entry_of start early comment p)

-- the octets that are written of a packet
abbrev pub piece_by : Bool → ℕ → ℕ → List ℕ → Read → List ℕ
piece_by shown start early comment p = if shown then entry_block start early comment p else []

abbrev pub written_piece : Plan → ℕ → Option Verdict → Read → List ℕ
written_piece plan start verdict p =
    let comment = remark_of plan.network verdict p in piece_by (is_shown plan.scope comment) start plan.early comment p
