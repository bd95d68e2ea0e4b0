-- Which captures run.
use Rattle.std.specs.Prelude.{ℕ, nat_le, Bool, true, false, ◌&&◌, Some, None, if◌then◌else◌}
use Rattle.sr_audit.specs.declared.side.Side.{Side}
use Rattle.sr_audit.specs.declared.side.Side.TheVariants.{A, B}
use Rattle.sr_audit.specs.Shown.{bounded_sum}
use Rattle.sr_hold.specs.declared.recorder.Recorder.{Recorder}
use Rattle.sr_hold.specs.declared.recorder.Recorder.TheVariants.{A as RecorderA, B as RecorderB}
use Rattle.sr_watch.specs.declared.lan.Lan.{Lan}
use Rattle.sr_watch.specs.declared.lan.Lans.{Lans}
use Rattle.sr_watch.specs.declared.lan.Phase.{Phase}
use Rattle.sr_watch.specs.declared.lan.Phase.TheVariants.{Awaited, Running, Ended}
use Rattle.sr_watch.specs.Limits.{return_time}

abbrev pub is_running : Phase → Bool
is_running Awaited = false
is_running Running = true
is_running Ended = false

abbrev pub is_ended : Phase → Bool
is_ended Awaited = false
is_ended Running = false
is_ended Ended = true

-- neither was begun, and nothing is raised
abbrev pub lan_awaited : Lan
lan_awaited = record {
  phase = Awaited;
  from = 0;
  last = None;
  heard = 0;
  unwatched = 0;
  told_behind = 0;
  raised = record { silent = None; ended = None; behind = None; full = None };
}

abbrev pub lans_awaited : Lans
lans_awaited = record { a = lan_awaited; b = lan_awaited; clock = 0 }

-- a capture counts as running at a real time
abbrev pub runs_at : ℕ → Lan → Bool
runs_at now lan = is_running lan.phase && nat_le lan.from now

-- both do: a copy that comes then is watched
abbrev pub is_watching : ℕ → Lans → Bool
is_watching now lans = runs_at now lans.a && runs_at now lans.b

-- both have ended
abbrev pub has_ended : Lans → Bool
has_ended lans = is_ended lans.a.phase && is_ended lans.b.phase

abbrev pub lan_in : Side → Lans → Lan
lan_in A lans = lans.a
lan_in B lans = lans.b

abbrev pub with_lan : Side → Lan → Lans → Lans
with_lan A lan lans = record lans { a = lan }
with_lan B lan lans = record lans { b = lan }

-- the recorder of a LAN, and the LAN of a recorder
abbrev pub recorder_of : Side → Recorder
recorder_of A = RecorderA
recorder_of B = RecorderB

abbrev pub side_of : Recorder → Side
side_of RecorderA = A
side_of RecorderB = B

-- a capture begins at a real time: one that had ended counts as running 400 ms later
abbrev pub counts_from_time : Phase → ℕ → ℕ → ℕ
counts_from_time Awaited from now = now
counts_from_time Running from now = from
counts_from_time Ended from now = bounded_sum now return_time

abbrev pub lan_begun : ℕ → Lan → Lan
lan_begun now lan = record lan { phase = Running; from = counts_from_time lan.phase lan.from now; heard = now }

-- it has ended; a packet of it came; a copy of it came that is not watched
abbrev pub lan_ended : Lan → Lan
lan_ended lan = record lan { phase = Ended }

abbrev pub lan_heard : ℕ → ℕ → Lan → Lan
lan_heard time now lan = record lan { last = Some time; heard = now }

abbrev pub lan_passed : Lan → Lan
lan_passed lan = record lan { unwatched = bounded_sum lan.unwatched 1 }

-- one of them changes, at a real time that is told
abbrev pub at_clock : ℕ → Lans → Lans
at_clock now lans = record lans { clock = now }

abbrev pub lans_with : Side → (Lan → Lan) → Lans → Lans
lans_with side change lans = with_lan side (change (lan_in side lans)) lans

-- a copy came, which is watched or not
abbrev pub copy_heard : Bool → ℕ → ℕ → Lan → Lan
copy_heard watched time now lan = if watched then lan_heard time now lan else lan_passed (lan_heard time now lan)

abbrev pub lans_with_copy : Side → ℕ → ℕ → Lans → Lans
lans_with_copy side time now lans = at_clock now (lans_with side (copy_heard (is_watching now lans) time now) lans)
