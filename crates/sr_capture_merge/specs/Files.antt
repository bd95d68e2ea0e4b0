-- The file that is written of packets and their verdicts.
use Rattle.std.specs.Prelude.{◌≡◌, ℕ, ◌≤◌, Bool, false, ◌⊎◌, List, [], ◌∷◌, ◌++◌, Option, Some, if◌then◌else◌}
use Rattle.std.specs.List.{flat_map}
use Rattle.std.specs.Io.KnownBytes.{Appends}
use Rattle.sr_audit.specs.declared.side.Side.{Side}
use Rattle.sr_capture.specs.declared.packet.Packet.{Packet}
use Rattle.sr_capture_script.specs.declared.fault.ScriptFault.{ScriptFault}
use Rattle.sr_capture_script.specs.declared.fault.ScriptFault.TheVariants.{File, Write, NoMemory, Endless}
use Rattle.sr_pcapng.specs.declared.lanes.Lane.{Lane}
use Rattle.sr_pcapng.specs.declared.track.Track.{Track}
use Rattle.sr_pcapng.specs.Steps.{AreBlocks}
use Rattle.sr_pcapng.specs.Writing.{Written, file_of, start_at, found_at}
use Rattle.sr_capture_merge.specs.declared.counts.Counts.{Counts}
use Rattle.sr_capture_merge.specs.declared.plan.Plan.{Plan}
use Rattle.sr_capture_merge.specs.Counted.{AreCountsOf}
use Rattle.sr_capture_merge.specs.Counting.{CountsLeftOut}
use Rattle.sr_capture_merge.specs.Entries.{names_of, entry_of, is_shown, written_piece}
use Rattle.sr_capture_merge.specs.Remarks.{remark_of}
use Rattle.sr_capture_merge.specs.Reading.{IsReadIf, is_whole, was_cut, is_long}
use Rattle.sr_capture_merge.specs.Settling.{Settled, AreSettled, IsVerdict, IsKnown}
use Rattle.sr_merge.specs.Merging.{Read, Pending, Merging}
use Rattle.sr_merge.specs.MergeRuns.{packets_in}
use Rattle.sr_merge.specs.Verdicts.{kept_of_all, AllBy}

-- a packet with its comment, if it is to be shown
abbrev pub entries_by : Bool → Written → List Written
entries_by shown entry = if shown then entry ∷ [] else []

abbrev pub entries_one : Plan → ℕ → Settled → List Written
entries_one plan start x =
    let comment = remark_of plan.network x.verdict x.packet in
    entries_by (is_shown plan.scope comment) (entry_of start plan.early comment x.packet)

-- the packets of the file
unfoldable pub merged_entries : Plan → ℕ → List Settled → List Written
merged_entries plan start xs = flat_map (entries_one plan start) xs

-- the file: a section, two interfaces, and the packets
unfoldable pub merged_file : Plan → ℕ → List Settled → List ℕ
merged_file plan start xs = file_of (names_of plan.network) (merged_entries plan start xs)

-- such a file is read again: of each of its interfaces the packets that it has, in their order, with their times and octets
abbrev pub MergedFilesAreRead : Type 0
MergedFilesAreRead = (plan : Plan) (start : ℕ) (xs : List Settled) (lane : Lane) → (last : Track)
    × AreBlocks (start_at lane) (merged_file plan start xs) (flat_map (found_at lane) (merged_entries plan start xs)) last

-- the octets of the packets, behind the head
unfoldable pub merged_body : Plan → ℕ → List Settled → List ℕ
merged_body plan start xs = flat_map (λ x. written_piece plan start x.verdict x.packet) xs

-- what was written, and what was counted of it
pub record Sink : Type 0 where
  pub written : Option (List ℕ)
  pub counts : Counts

abbrev pub sink : Option (List ℕ) → Counts → Sink
sink written counts = record { written = written; counts = counts }

-- packets were taken up to this time, and those that don't wait any longer were written
pub record HasWritten (plan : Plan) (start : ℕ) (taken : List Read) (now : ℕ) (m : Merging) (held to : Sink) : Type 0 where
  pub gone : List Pending
  pub settled : List Settled
  pub sources : (kept_of_all taken).sources ≡ m.sources
  pub untold : (kept_of_all taken).untold ≡ m.untold
  pub waiting : (kept_of_all taken).waiting ≡ gone ++ m.waiting
  pub early : AllBy now (packets_in m.waiting)
  pub known : AreSettled (IsKnown now) gone (packets_in m.waiting) settled
  pub wrote : Appends held.written to.written (merged_body plan start settled)
  pub counted : AreCountsOf plan settled to.counts

-- no more will come: the first ones were written, and others wait
pub record HasEnded (plan : Plan) (start : ℕ) (taken : List Read) (until : Option ℕ) (waiting : List Pending)
    (held to : Sink) : Type 0 where
  pub gone : List Pending
  pub settled : List Settled
  pub all : (kept_of_all taken).waiting ≡ gone ++ waiting
  pub verdicts : AreSettled (IsVerdict until) gone (packets_in waiting) settled
  pub wrote : Appends held.written to.written (merged_body plan start settled)
  pub counted : AreCountsOf plan settled to.counts

-- a fault of the writer, or of memory, where this holds; what a writer that fails wrote is not known
abbrev pub IsStop : ScriptFault → Type 0 → Type 0
IsStop Write P = Unit {0}
IsStop NoMemory P = P
IsStop (File inlet fault) P = ⊥
IsStop Endless P = ⊥

-- behind what was written, what is due at a time was written; no packet was left out
pub record WritesOn (plan : Plan) (start now : ℕ) (old new : Merging) (mid to : Sink) : Type 0 where
  pub left_out : CountsLeftOut false false mid.counts to.counts
  pub on : (taken : List Read) (before : ℕ) (held : Sink) → before ≤ now → HasWritten plan start taken before old held mid →
      HasWritten plan start taken now new held to

-- a packet of a capture was taken, if it is whole; else it was left out
pub record TakesOn (plan : Plan) (start : ℕ) (side : Side) (number time : ℕ) (packet : Packet) (old new : Merging) (mid to : Sink) :
    Type 0 where
  pub left_out : CountsLeftOut (was_cut packet.extent) (is_long packet.extent packet.len) mid.counts to.counts
  pub on : (taken : List Read) (before : ℕ) (held : Sink) → before ≤ time → HasWritten plan start taken before old held mid →
      (own : List Read) × IsReadIf (is_whole packet.extent packet.len) plan side number time packet.octets.items own
      × HasWritten plan start (taken ++ own) time new held to

-- some of the packets that wait were written, where no more will come; no packet was left out
pub record EndsOn (plan : Plan) (start : ℕ) (until : Option ℕ) (old new : List Pending) (mid to : Sink) : Type 0 where
  pub left_out : CountsLeftOut false false mid.counts to.counts
  pub on : (taken : List Read) (held : Sink) → HasEnded plan start taken until old held mid → HasEnded plan start taken until new held to

-- what became of the packets that wait, where this ended going over captures and no more is known behind a time
abbrev pub EndsBy : ScriptFault → ScriptFault → Plan → ℕ → ℕ → List Pending → Sink → Sink → Type 0
EndsBy (File inlet own) fault plan start now old mid to =
    ((fault ≡ File inlet own) × EndsOn plan start (Some now) old [] mid to)
    ⊎ IsStop fault ((left : List Pending) × EndsOn plan start (Some now) old left mid to)
EndsBy own fault plan start now old mid to = (fault ≡ own) × (to ≡ mid)
