-- The merge of the packets of captures into a file.
use Rattle.std.specs.Prelude.{◌≡◌, ℕ, ◌+◌, List, [], ◌++◌, length, Option, None, Some, IfSome, IfNone}
use Rattle.std.specs.Io.KnownBytes.{Appends}
use Rattle.sr_capture_script.specs.declared.captures.Captures.{Captures}
use Rattle.sr_capture_script.specs.declared.captures.Front.{Front}
use Rattle.sr_capture_script.specs.Captures.{IsDueFirst, HasNoFront}
use Rattle.sr_capture_script.specs.declared.choice.Choice.{Choice}
use Rattle.sr_capture_script.specs.declared.fault.ScriptFault.{ScriptFault}
use Rattle.sr_capture_script.specs.declared.fault.ScriptFault.TheVariants.{File, Write, NoMemory, Endless}
use Rattle.sr_capture_script.specs.Coming.{HaveCome, StartsAt, last_time, IsNextOf, AllCame, CameUpTo}
use Rattle.sr_capture_script.specs.Items.{Item}
use Rattle.sr_capture_script.specs.Merging.{Feed}
use Rattle.sr_capture_merge.specs.declared.plan.Plan.{Plan}
use Rattle.sr_capture_merge.specs.Counted.{AreCountsOf, AreLeftOut}
use Rattle.sr_capture_merge.specs.Files.{merged_file, Sink, HasWritten}
use Rattle.sr_capture_merge.specs.Reading.{AreRead}
use Rattle.sr_capture_merge.specs.Settling.{Settled, AreSettled, IsVerdict}
use Rattle.sr_merge.specs.Merging.{Read, Pending, Merging}
use Rattle.sr_merge.specs.MergeRuns.{packets_in}
use Rattle.sr_merge.specs.Verdicts.{kept_of_all}

-- packets came, were taken as they are read, and those that don't wait any longer were written
pub record IsMerging {R : Type 0} (remaining : R → Option (List ℕ)) (choice : Choice) (plan : Plan) (start : ℕ) (x y z : Feed)
    (all : Captures R) (next : Option Front) (now : ℕ) (m : Merging) (held to : Sink) : Type 0 where
  pub out : List Item
  pub come : HaveCome remaining x y z all out
  pub ahead : IsNextOf all start next out
  pub starts : StartsAt start out
  pub time : now ≡ last_time start 0 out
  pub taken : List Read
  pub read : AreRead choice plan start out taken
  pub written : HasWritten plan start taken now m held to
  pub left_out : AreLeftOut choice start out to.counts

-- the time of a fault of a file is that of the last packet before it
abbrev pub IsStopTime : ScriptFault → ℕ → List Item → ℕ → ℕ → Type 0
IsStopTime (File inlet fault) start items now by = (now ≡ last_time start 0 items) × (by ≡ now)
IsStopTime other start items now by = Unit {0}

-- packets came before a fault, were taken as they are read, and some of them were written
pub record HasStopped (choice : Choice) (plan : Plan) (start : ℕ) (x y z : Feed) (fault : ScriptFault) (now : ℕ) (m : Merging)
    (held to : Sink) : Type 0 where
  pub out : List Item
  pub came : CameUpTo fault x y z out
  pub starts : StartsAt start out
  pub taken : List Read
  pub read : AreRead choice plan start out taken
  pub by : ℕ
  pub time : IsStopTime fault start out now by
  pub written : HasWritten plan start taken by m held to
  pub left_out : AreLeftOut choice start out to.counts

-- one packet more, whichever is next then
abbrev pub MergesOn : {R : Type 0} → (R → Option (List ℕ)) → Choice → Plan → ℕ → Captures R → Captures R → Front → ℕ → ℕ → Merging →
    Merging → Sink → Sink → Type 0
MergesOn remaining choice plan start before after front now later old new mid to = (x y z : Feed) (held : Sink) →
    (was : IsMerging remaining choice plan start x y z before (Some front) now old held mid) → (next : Option Front) →
    IfSome next (λ due. IsDueFirst after due) → IfNone next (HasNoFront after) →
    (is : IsMerging remaining choice plan start x y z after next later new held to) × (length is.out ≡ length was.out + 1)

-- all packets
abbrev pub MergesAll : {R : Type 0} → (R → Option (List ℕ)) → Choice → Plan → ℕ → Captures R → Captures R → Option Front → ℕ → ℕ → Merging →
    Merging → Sink → Sink → Type 0
MergesAll remaining choice plan start before after first now later old new mid to = (x y z : Feed) (held : Sink) →
    IsMerging remaining choice plan start x y z before first now old held mid →
    IsMerging remaining choice plan start x y z after None later new held to

-- up to a fault
abbrev pub MergesUntil : {R : Type 0} → (R → Option (List ℕ)) → Choice → Plan → ℕ → Captures R → Option Front → ScriptFault → ℕ → ℕ →
    Merging → Merging → Sink → Sink → Type 0
MergesUntil remaining choice plan start before next fault now later old new mid to = (x y z : Feed) (held : Sink) →
    IsMerging remaining choice plan start x y z before next now old held mid → HasStopped choice plan start x y z fault later new held to

-- the file of some packets: each that is to be written is there with its verdict, and counted; and it is counted how many were taken as
-- they came, since the record was full, and how many were left out
pub record IsFileOf (choice : Choice) (plan : Plan) (items : List Item) (until : ℕ → Option ℕ) (held : Option (List ℕ)) (to : Sink) :
    Type 0 where
  pub start : ℕ
  pub starts : StartsAt start items
  pub taken : List Read
  pub read : AreRead choice plan start items taken
  pub settled : List Settled
  pub verdicts : AreSettled (IsVerdict (until (last_time start 0 items))) (kept_of_all taken).waiting [] settled
  pub wrote : Appends held to.written (merged_file plan start settled)
  pub counted : AreCountsOf plan settled to.counts
  pub untold : to.counts.untold ≡ (kept_of_all taken).untold
  pub left_out : AreLeftOut choice start items to.counts

-- the file of some packets up to one of those that are to be written; of all that were taken, whether written yet or not, it is counted how
-- many were taken as they came, since the record was full; and of all packets, how many were left out
pub record IsFrontOf (choice : Choice) (plan : Plan) (items : List Item) (held : Option (List ℕ)) (to : Sink) : Type 0 where
  pub start : ℕ
  pub starts : StartsAt start items
  pub taken : List Read
  pub read : AreRead choice plan start items taken
  pub gone : List Pending
  pub left : List Pending
  pub parts : (kept_of_all taken).waiting ≡ gone ++ left
  pub until : Option ℕ
  pub settled : List Settled
  pub verdicts : AreSettled (IsVerdict until) gone (packets_in left) settled
  pub wrote : Appends held to.written (merged_file plan start settled)
  pub counted : AreCountsOf plan settled to.counts
  pub untold : to.counts.untold ≡ (kept_of_all taken).untold
  pub left_out : AreLeftOut choice start items to.counts

-- captures that are at their ends, and those that can't be read on behind a packet of some time
abbrev pub whole : ℕ → Option ℕ
whole time = None

abbrev pub broken : ℕ → Option ℕ
broken time = Some time

-- the packets of three files, each once and in order of time, are merged into a file
pub record IsMerged (choice : Choice) (plan : Plan) (x y z : Feed) (held : Option (List ℕ)) (to : Sink) : Type 0 where
  pub merged : List Item
  pub came : AllCame x y z merged
  pub file : IsFileOf choice plan merged whole held to

-- what is written where there is a fault: of a file, all packets before it; else, but where the writer failed, a front of what is to be
abbrev pub IsHalted : ScriptFault → ScriptFault → Choice → Plan → List Item → Option (List ℕ) → Sink → Type 0
IsHalted (File inlet fault) own choice plan items held to = (own ≡ File inlet fault) × IsFileOf choice plan items broken held to
IsHalted NoMemory own choice plan items held to = IsFrontOf choice plan items held to
IsHalted Endless own choice plan items held to = IsFrontOf choice plan items held to
IsHalted Write own choice plan items held to = Unit {0}

-- the packets of three files that come before a fault are merged into a file; own is what ended going over the files
pub record IsMergedUpTo (choice : Choice) (plan : Plan) (x y z : Feed) (fault : ScriptFault) (held : Option (List ℕ)) (to : Sink) :
    Type 0 where
  pub own : ScriptFault
  pub merged : List Item
  pub came : CameUpTo own x y z merged
  pub file : IsHalted fault own choice plan merged held to
