-- What a watch keeps, by all calls so far.
use Rattle.std.specs.Prelude.{◌≡◌, ℕ, zero, suc, ◌+◌, ◌^◌, ◌<◌, ◌≤◌, max, Bool, false, if◌then◌else◌, Option, None, Some}
use Rattle.std.specs.Prelude.{List, [], ◌∷◌, ◌++◌, length, filter}
use Rattle.std.specs.List.{list_any}
use Rattle.std.specs.Map.{keys_of}
use Rattle.sr_audit.specs.declared.side.Side.{Side}
use Rattle.sr_audit.specs.declared.side.Side.TheVariants.{A, B}
use Rattle.sr_frame.specs.declared.fields.Mac.{Mac}
use Rattle.sr_frame.specs.Addresses.{mac_eq}
use Rattle.sr_audit.specs.Audits.{Sent}
use Rattle.sr_audit.specs.Limits.{most_audited}
use Rattle.sr_audit.specs.Shown.{bounded_sum}
use Rattle.sr_audit.specs.Waiting.{copy_in_time}
use Rattle.sr_hold.specs.declared.hold.Released.{Released}
use Rattle.sr_hold.specs.Holding.{line_of}
use Rattle.sr_hold.specs.Pacing.{pace_of}
use Rattle.sr_hold.specs.Turns.{Turn, came, heard, release, state_after, released_in}
use Rattle.sr_watch.specs.declared.alarm.Alarm.{Alarm}
use Rattle.sr_watch.specs.declared.alarm.LanAlarm.{LanAlarm}
use Rattle.sr_watch.specs.declared.report.Header.{Header}
use Rattle.sr_watch.specs.declared.report.LanCounts.{LanCounts}
use Rattle.sr_watch.specs.declared.report.SourceLine.{SourceLine}
use Rattle.sr_watch.specs.declared.settings.Settings.{Settings}
use Rattle.sr_watch.specs.declared.watch.Next.{Next}
use Rattle.sr_watch.specs.declared.watch.Numbered.{Numbered}
use Rattle.sr_watch.specs.declared.watch.Watch.{Watch}
use Rattle.sr_watch.specs.Alarms.{alarm_between, raised_with, since_if}
use Rattle.sr_watch.specs.LanAlarms.{lan_raised_at, lan_holds, lan_checked, last_or}
use Rattle.sr_watch.specs.Forgetting.{none_forgotten}
use Rattle.sr_watch.specs.Running.{lans_awaited, is_running, is_watching, lan_in, with_lan, recorder_of, side_of}
use Rattle.sr_watch.specs.Watching.{those_sent, lines_by, with_entry_of, Watches}

-- what is released, as an arrival of its source at its moment
abbrev pub next_as : Released Numbered → Next
next_as x = record { src = x.item.src; arrival = record { side = side_of x.recorder; seq = x.item.seq; time = x.moment } }

abbrev pub sent_as : Next → Sent
sent_as n = (n.src, n.arrival)

-- what is released, in order, newest first
abbrev pub newest_first : List (Released Numbered) → List Sent
newest_first [] = []
newest_first (x ∷ later) = newest_first later ++ sent_as (next_as x) ∷ []

-- all arrivals that were released, newest first
abbrev pub released_sent : ℕ → ℕ → List (Turn Numbered) → List Sent
released_sent slack start turns = newest_first (released_in slack start turns)

-- what was released and waits for memory
abbrev pub due_in : Option Next → List Sent
due_in None = []
due_in (Some n) = sent_as n ∷ []

-- how many arrivals wait
abbrev pub left_in : Watch → ℕ
left_in w = length w.hold.a + length w.hold.b + length (due_in w.next)

-- what a watch did: it noted an arrival, or left it out, told a line, or forgot the sources that don't stay
pub data Act : Type 0 where
  noted : (x : Sent) → Act
  passed : (x : Sent) → Act
  told : (line : SourceLine) → Act
  forgot : (stays : Mac → Bool) → Act

-- by what it did, newest first: the arrivals that it noted and the lines that it told of sources that it did not forget since then
abbrev pub noted_in : List Act → List Sent
noted_in [] = []
noted_in (noted x ∷ before) = x ∷ noted_in before
noted_in (passed x ∷ before) = noted_in before
noted_in (told line ∷ before) = noted_in before
noted_in (forgot stays ∷ before) = those_sent stays (noted_in before)

abbrev pub lines_in : List Act → List SourceLine
lines_in [] = []
lines_in (noted x ∷ before) = lines_in before
lines_in (passed x ∷ before) = lines_in before
lines_in (told line ∷ before) = line ∷ lines_in before
lines_in (forgot stays ∷ before) = lines_by stays (lines_in before)

-- all arrivals that it took, and how many it left out
abbrev pub taken_in : List Act → List Sent
taken_in [] = []
taken_in (noted x ∷ before) = x ∷ taken_in before
taken_in (passed x ∷ before) = x ∷ taken_in before
taken_in (told line ∷ before) = taken_in before
taken_in (forgot stays ∷ before) = taken_in before

abbrev pub left_out_in : List Act → ℕ
left_out_in [] = 0
left_out_in (noted x ∷ before) = left_out_in before
left_out_in (passed x ∷ before) = bounded_sum (left_out_in before) 1
left_out_in (told line ∷ before) = left_out_in before
left_out_in (forgot stays ∷ before) = left_out_in before

-- the sources that have an entry: those of arrivals that were noted, and that were not forgotten since then, in the order of first hearing
abbrev pub tabled_in : List Act → List Mac
tabled_in [] = []
tabled_in (noted x ∷ before) = with_entry_of x.0 (tabled_in before)
tabled_in (passed x ∷ before) = tabled_in before
tabled_in (told line ∷ before) = tabled_in before
tabled_in (forgot stays ∷ before) = filter stays (tabled_in before)

-- a source has no entry, and as many others have one as may
abbrev pub FindsNoRoom : Mac → List Mac → Type 0
FindsNoRoom m tabled = (list_any (mac_eq m) tabled ≡ false) × (most_audited ≤ length tabled)

-- each arrival that was left out found no room
abbrev pub LeavesOutWhereFull : List Act → Type 0
LeavesOutWhereFull [] = Unit {0}
LeavesOutWhereFull (noted x ∷ before) = LeavesOutWhereFull before
LeavesOutWhereFull (passed x ∷ before) = FindsNoRoom x.0 (tabled_in before) × LeavesOutWhereFull before
LeavesOutWhereFull (told line ∷ before) = LeavesOutWhereFull before
LeavesOutWhereFull (forgot stays ∷ before) = LeavesOutWhereFull before

-- by these calls of a hold this waits, and by what was done so much is kept of these sources; all that was released was taken, but for one
-- that waits for memory, and left out only where there was no room
pub record FollowsTurns (slack start : ℕ) (turns : List (Turn Numbered)) (acts : List Act) (w : Watch) : Type 0 where
  pub holds : w.hold ≡ state_after slack start turns
  pub sent : released_sent slack start turns ≡ due_in w.next ++ taken_in acts
  pub watches : length (taken_in acts) < 2 ^ 64 → Watches (noted_in acts) (lines_in acts) w.table.sources.entries
  pub left_out : w.table.left_out ≡ left_out_in acts
  pub tabled : keys_of w.table.sources.entries ≡ tabled_in acts
  pub passes : LeavesOutWhereFull acts

-- a copy that comes waits where both captures run; else it is a packet that tells how far its capture is, and no more
abbrev pub turn_if : Bool → Side → ℕ → ℕ → Numbered → Turn Numbered
turn_if watched side time now copy =
    if watched then came (recorder_of side) time now copy else heard (recorder_of side) time now

abbrev pub turn_of : Side → ℕ → ℕ → Numbered → Watch → Turn Numbered
turn_of side time now copy w = turn_if (is_watching now w.lans) side time now copy

-- what no call changes: what a watch is set to; and what the end of both captures changes alone: up to when no frame is waited for
pub record KeepsSettings (old new : Watch) : Type 0 where
  pub settings : new.settings ≡ old.settings
  pub floor : new.floor ≡ old.floor

-- a watch of which nothing came: neither capture was begun, and no source was forgotten
pub record IsNewWatch (set : Settings) (w : Watch) : Type 0 where
  pub settings : w.settings ≡ set
  pub floor : w.floor ≡ 0
  pub lans : w.lans ≡ lans_awaited
  pub forgotten : w.table.forgotten ≡ none_forgotten

-- a call that adds a turn, and no line
pub record TakesTurn (t : Turn Numbered) (old new : Watch) : Type 0 where
  pub follows : (slack start : ℕ) (turns : List (Turn Numbered)) (acts : List Act) →
      FollowsTurns slack start turns acts old → FollowsTurns slack start (t ∷ turns) acts new

-- so many more calls that release
abbrev pub with_releases : ℕ → List (Turn Numbered) → List (Turn Numbered)
with_releases zero turns = turns
with_releases (suc n) turns = release ∷ with_releases n turns

-- an arrival that is noted, or left out, and some of them
abbrev pub taken_as : Bool × Sent → Act
taken_as t = if t.0 then noted t.1 else passed t.1

abbrev pub with_acts : List (Bool × Sent) → List Act → List Act
with_acts [] acts = acts
with_acts (t ∷ more) acts = taken_as t ∷ with_acts more acts

-- with some more calls that release, and some more arrivals that are taken
pub record Goes (slack start : ℕ) (turns : List (Turn Numbered)) (acts : List Act) (w : Watch) : Type 0 where
  pub releases : ℕ
  pub more : List (Bool × Sent)
  pub follows : FollowsTurns slack start (with_releases releases turns) (with_acts more acts) w

-- a call that releases, and takes what is released, and does nothing else
pub record OnlyReleases (old new : Watch) : Type 0 where
  pub goes : (slack start : ℕ) (turns : List (Turn Numbered)) (acts : List Act) →
      Goes slack start turns acts old → Goes slack start turns acts new
  pub forgotten : new.table.forgotten ≡ old.table.forgotten
  pub lans : new.lans ≡ old.lans
  pub keeps : KeepsSettings old new

-- up to when all is told: once both captures have ended no frame is waited for, also where one begins once more
abbrev pub floor_if : Bool → ℕ → ℕ → ℕ
floor_if over mark floor = if over then max floor (bounded_sum mark copy_in_time) else floor

abbrev pub told_up_to : Watch → ℕ
told_up_to w = max w.floor w.hold.progress.mark.time

-- since when an alarm of a capture holds, if it does
abbrev pub lan_since : Side → LanAlarm → Watch → Option ℕ
lan_since side alarm w =
    let lan = lan_in side w.lans in
    let r = recorder_of side in
    since_if (lan_holds alarm w.settings.alone_for w.lans.clock (pace_of r w.hold.progress).behind (length (line_of r w.hold)) lan)
    (last_or w.hold.progress.mark.time lan.last)

-- an alarm of a capture was checked: the check tells what changed since the last one, and nothing else changed
pub record ChecksLan (side : Side) (alarm : LanAlarm) (old new : Watch) (told : Option Alarm) : Type 0 where
  pub told_is : told ≡ alarm_between (lan_raised_at alarm (lan_in side old.lans).raised) (lan_since side alarm old)
  pub lans : new.lans ≡ with_lan side (lan_checked alarm (raised_with (lan_raised_at alarm (lan_in side old.lans).raised)
      (lan_since side alarm old)) (pace_of (recorder_of side) old.hold.progress).behind (lan_in side old.lans)) old.lans
  pub follows : (slack start : ℕ) (turns : List (Turn Numbered)) (acts : List Act) →
      FollowsTurns slack start turns acts old → FollowsTurns slack start turns acts new

-- what stands in a report of the capture of a LAN, and at its head
abbrev pub lan_counts_of : Side → Watch → LanCounts
lan_counts_of side w =
    let lan = lan_in side w.lans in
    let r = recorder_of side in
    record {
      is_running = is_running lan.phase;
      last = lan.last;
      unwatched = lan.unwatched;
      behind = (pace_of r w.hold.progress).behind;
      held = length (line_of r w.hold);
    }

abbrev pub report_head : Watch → Header
report_head w = record {
  mark = w.hold.progress.mark.time;
  a = lan_counts_of A w;
  b = lan_counts_of B w;
  sources = length w.table.sources.entries;
  forgotten = w.table.forgotten.sources;
  left_out = w.table.left_out;
}
