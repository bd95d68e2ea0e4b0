-- What is kept of a source.
use Rattle.std.specs.Prelude.{◌≡◌, ℕ, ◌+◌, ◌^◌, ◌<◌, ◌≤◌, List, ◌∷◌, length, Option, None, Bool, true, false, ◌==◌, ◌&&◌}
use Rattle.sr_audit.specs.declared.arrival.Arrival.{Arrival}
use Rattle.sr_audit.specs.declared.tally.Sides.{Sides}
use Rattle.sr_audit.specs.Limits.{exact_arrivals}
use Rattle.sr_audit.specs.Stretches.{stretches, current}
use Rattle.sr_audit.specs.Taken.{HasTaken}
use Rattle.sr_audit.specs.Waiting.{waits_of}
use Rattle.sr_watch.specs.declared.alarm.Alarm.{Alarm}
use Rattle.sr_watch.specs.declared.alarm.SourceAlarm.{SourceAlarm}
use Rattle.sr_watch.specs.declared.alarm.SourceAlarm.TheVariants.{LanLostA, LanLostB, Silent, Skew, LostA, LostB}
use Rattle.sr_watch.specs.declared.report.SourceLine.{SourceLine}
use Rattle.sr_watch.specs.declared.settings.Settings.{Settings}
use Rattle.sr_watch.specs.declared.tracked.Tracked.{Tracked}
use Rattle.sr_watch.specs.Alarms.{alarm_between, raised_with, raised_at, with_raised, oldest_of, since_if, lan_lost, is_silent}
use Rattle.sr_watch.specs.Alarms.{is_skewed, is_lossy}
use Rattle.sr_watch.specs.Changed.{changes_between, total_of, HasTold}
use Rattle.sr_watch.specs.Counted.{always, counted_of, last_copy_time, lasts_of}
use Rattle.sr_watch.specs.Late.{lates_of}

-- these arrivals of the source were noted, newest first
pub record Tracks (xs : List Arrival) (t : Tracked) : Type 0 where
  pub taken : HasTaken always xs t.source
  pub late : length xs ≤ exact_arrivals → t.late ≡ lates_of (stretches xs)
  pub first : t.first ≡ oldest_of xs
  pub last : t.last ≡ lasts_of xs
  pub newest : t.newest ≡ last_copy_time xs

-- these arrivals were noted, and these lines told of them, newest first
pub record Watched (xs : List Arrival) (lines : List SourceLine) (t : Tracked) : Type 0 where
  pub tracks : Tracks xs t
  pub told : length xs ≤ exact_arrivals → HasTold lines t.told
  pub since : t.told ≡ total_of lines
  -- where it may be forgotten, all its arrivals were told
  pub settled : t.is_settled ≡ true → length xs ≤ exact_arrivals → (mark : ℕ) × (t.told ≡ counted_of mark xs)

-- one arrival more was noted
pub record NotesArrival (x : Arrival) (old new : Tracked) : Type 0 where
  pub notes : (xs : List Arrival) (lines : List SourceLine) → length xs + 1 < 2 ^ 64 →
      Watched xs lines old → Watched (x ∷ xs) lines new
  pub told : new.told ≡ old.told
  -- it is not forgotten before a line told of it
  pub unsettled : new.is_settled ≡ false

-- no frame waits for its copy by either LAN
abbrev pub nothing_waits : Sides → Bool
nothing_waits s = (s.a == 0) && (s.b == 0)

-- a line tells what no line before told, of all that is counted up to a mark; and all is told now
pub record TellsLine (mark : ℕ) (old new : Tracked) (line : SourceLine) : Type 0 where
  pub total : (xs : List Arrival) → length xs ≤ exact_arrivals → Tracks xs old → line.total ≡ counted_of mark xs
  pub last : (xs : List Arrival) → Tracks xs old → line.last ≡ lasts_of xs
  pub interval : line.interval ≡ changes_between old.told line.total
  pub waiting : (xs : List Arrival) → length xs ≤ exact_arrivals → Tracks xs old → line.waiting ≡ waits_of mark (current (stretches xs))
  -- it may be forgotten where no frame waits
  pub settled : new.is_settled ≡ nothing_waits line.waiting
  -- the skews are those since the line before
  pub spread : line.spread ≡ old.spread
  pub none : new.spread ≡ None
  -- this is what alarms of an interval are by, until the next line
  pub shown : new.shown ≡ line.interval
  pub shown_spread : new.shown_spread ≡ line.spread
  pub shown_at : new.shown_at ≡ mark
  pub all : new.told ≡ line.total
  pub keeps : (xs : List Arrival) (lines : List SourceLine) → Watched xs lines old → Watched xs (line ∷ lines) new

-- an alarm was checked: it holds since then, or not; the check tells what changed since the last one, and nothing else changed
pub record ChecksAlarm (alarm : SourceAlarm) (mark : ℕ) (settings : Settings) (old new : Tracked) (told : Option Alarm) : Type 0 where
  pub since : Option ℕ
  pub lan_lost_a : alarm ≡ LanLostA → since ≡ lan_lost settings.alone_for old.first old.last.a old.last.b
  pub lan_lost_b : alarm ≡ LanLostB → since ≡ lan_lost settings.alone_for old.first old.last.b old.last.a
  pub silent : alarm ≡ Silent → since ≡ is_silent settings.silent_for mark old.last
  pub skew : alarm ≡ Skew → since ≡ since_if (is_skewed settings.skew_over old.shown_spread) old.shown_at
  pub lost_a : alarm ≡ LostA → since ≡ since_if (is_lossy settings.lost_over old.shown.lost.a old.shown) old.shown_at
  pub lost_b : alarm ≡ LostB → since ≡ since_if (is_lossy settings.lost_over old.shown.lost.b old.shown) old.shown_at
  pub told_is : told ≡ alarm_between (raised_at alarm old.raised) since
  pub raised : new.raised ≡ with_raised alarm (raised_with (raised_at alarm old.raised) since) old.raised
  pub keeps : (xs : List Arrival) (lines : List SourceLine) → Watched xs lines old → Watched xs lines new
