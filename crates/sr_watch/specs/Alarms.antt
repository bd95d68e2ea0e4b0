-- When alarms are raised, and when they are cleared.
use Rattle.std.specs.Prelude.{◌≡◌, ℕ, ◌+◌, ◌-◌, nat_lt, max, ℤ, pos, ◌+ℤ◌, ◌*ℤ◌, int_lt, Bool, true, false, ◌||◌, if◌then◌else◌}
use Rattle.std.specs.Prelude.{List, [], ◌∷◌, Option, None, Some, is_some}
use Rattle.std.specs.Int.{w128, saturate_signed}
use Rattle.sr_audit.specs.declared.arrival.Arrival.{Arrival}
use Rattle.sr_watch.specs.declared.alarm.Alarm.{Alarm}
use Rattle.sr_watch.specs.declared.alarm.Note.{Note}
use Rattle.sr_watch.specs.declared.alarm.Note.TheVariants.{Raised, Cleared}
use Rattle.sr_watch.specs.declared.alarm.RaisedSince.{RaisedSince}
use Rattle.sr_watch.specs.declared.alarm.SourceAlarm.{SourceAlarm}
use Rattle.sr_watch.specs.declared.alarm.SourceAlarm.TheVariants.{LanLostA, LanLostB, Silent, Skew, LostA, LostB}
use Rattle.sr_watch.specs.declared.counts.Changes.{Changes}
use Rattle.sr_watch.specs.declared.counts.Spread.{Spread}
use Rattle.sr_watch.specs.declared.report.Lasts.{Lasts}

-- an alarm that was raised since then or not, and since when it holds now, if it does: what a check tells
abbrev pub alarm_between : Option ℕ → Option ℕ → Option Alarm
alarm_between None None = None
alarm_between None (Some since) = Some (record { note = Raised; since = since })
alarm_between (Some since) None = Some (record { note = Cleared; since = since })
alarm_between (Some since) (Some again) = None

-- since when it is raised behind the check
abbrev pub raised_with : Option ℕ → Option ℕ → Option ℕ
raised_with raised None = None
raised_with None (Some since) = Some since
raised_with (Some since) (Some again) = Some since

-- behind some checks, newest first
abbrev pub raised_after : List (Option ℕ) → Option ℕ
raised_after [] = None
raised_after (holds ∷ before) = raised_with (raised_after before) holds

-- how many of the alarms that they told have a note
abbrev pub same_note : Note → Note → Bool
same_note Raised Raised = true
same_note Raised Cleared = false
same_note Cleared Raised = false
same_note Cleared Cleared = true

abbrev pub has_note : Note → Option Alarm → ℕ
has_note note None = 0
has_note note (Some alarm) = if same_note note alarm.note then 1 else 0

abbrev pub told_with : Note → List (Option ℕ) → ℕ
told_with note [] = 0
told_with note (holds ∷ before) = has_note note (alarm_between (raised_after before) holds) + told_with note before

abbrev pub one_if_some : Option ℕ → ℕ
one_if_some None = 0
one_if_some (Some since) = 1

-- each alarm that begins is over once, or is raised now; and it is raised where it holds
pub record IsToldOnce (checks : List (Option ℕ)) : Type 0 where
  pub each : told_with Raised checks ≡ told_with Cleared checks + one_if_some (raised_after checks)

pub record AlarmsAreToldOnce : Type 0 where
  pub once : (checks : List (Option ℕ)) → IsToldOnce checks
  pub holds : (holds : Option ℕ) (before : List (Option ℕ)) → is_some (raised_after (holds ∷ before)) ≡ is_some holds

-- since when each alarm of a source is raised
abbrev pub raised_at : SourceAlarm → RaisedSince → Option ℕ
raised_at LanLostA r = r.lan_lost_a
raised_at LanLostB r = r.lan_lost_b
raised_at Silent r = r.silent
raised_at Skew r = r.skew
raised_at LostA r = r.lost_a
raised_at LostB r = r.lost_b

abbrev pub with_raised : SourceAlarm → Option ℕ → RaisedSince → RaisedSince
with_raised LanLostA since r = record r { lan_lost_a = since }
with_raised LanLostB since r = record r { lan_lost_b = since }
with_raised Silent since r = record r { silent = since }
with_raised Skew since r = record r { skew = since }
with_raised LostA since r = record r { lost_a = since }
with_raised LostB since r = record r { lost_b = since }

-- when the first copy of a source came
abbrev pub oldest_with : ℕ → Option ℕ → Option ℕ
oldest_with time None = Some time
oldest_with time (Some first) = Some first

abbrev pub oldest_of : List Arrival → Option ℕ
oldest_of [] = None
oldest_of (x ∷ before) = oldest_with x.time (oldest_of before)

-- a LAN has no copies any more: the newest copy by the other one lies further behind its own newest than a time, or behind the first of the
-- source where none came by it
abbrev pub since_if : Bool → ℕ → Option ℕ
since_if holds since = if holds then Some since else None

abbrev pub lost_behind : ℕ → ℕ → ℕ → Option ℕ
lost_behind alone_for since other = since_if (nat_lt alone_for (other - since)) since

abbrev pub own_or_first : Option ℕ → Option ℕ → Option ℕ
own_or_first first None = first
own_or_first first (Some own) = Some own

abbrev pub lost_since : ℕ → Option ℕ → Option ℕ → Option ℕ
lost_since alone_for None other = None
lost_since alone_for (Some since) None = None
lost_since alone_for (Some since) (Some other) = lost_behind alone_for since other

abbrev pub lan_lost : ℕ → Option ℕ → Option ℕ → Option ℕ → Option ℕ
lan_lost alone_for first own other = lost_since alone_for (own_or_first first own) other

-- no copy came by either LAN for longer than a time before the mark
abbrev pub newest_of_both : Option ℕ → Option ℕ → Option ℕ
newest_of_both None None = None
newest_of_both None (Some b) = Some b
newest_of_both (Some a) None = Some a
newest_of_both (Some a) (Some b) = Some (max a b)

abbrev pub silent_since : ℕ → ℕ → Option ℕ → Option ℕ
silent_since silent_for mark None = None
silent_since silent_for mark (Some last) = since_if (nat_lt silent_for (mark - last)) last

abbrev pub is_silent : ℕ → ℕ → Lasts → Option ℕ
is_silent silent_for mark last = silent_since silent_for mark (newest_of_both last.a last.b)

-- a skew of some frames is over a bound, to either side
abbrev pub is_skewed : Option ℕ → Option Spread → Bool
is_skewed None spread = false
is_skewed (Some bound) None = false
is_skewed (Some bound) (Some s) =
    int_lt (pos bound) s.greatest || int_lt (saturate_signed w128 (s.least +ℤ pos bound)) (pos 0)

-- the frames of an interval: those of both LANs, and those that one lost
abbrev pub interval_frames : Changes → ℤ
interval_frames c = saturate_signed w128 (saturate_signed w128 (c.both +ℤ c.lost.a) +ℤ c.lost.b)

-- a LAN lost so many of them, which is more hundredths than a bound
abbrev pub is_lossy : Option ℕ → ℤ → Changes → Bool
is_lossy None lost c = false
is_lossy (Some bound) lost c =
    int_lt (saturate_signed w128 (pos bound *ℤ interval_frames c)) (saturate_signed w128 (lost *ℤ pos 100))
