-- When alarms of captures are raised, and when they are cleared.
use Rattle.std.specs.Prelude.{ℕ, ◌-◌, nat_lt, nat_le, Bool, ◌&&◌, Option, None, Some}
use Rattle.sr_hold.specs.Limits.{line_room}
use Rattle.sr_watch.specs.declared.alarm.LanAlarm.{LanAlarm}
use Rattle.sr_watch.specs.declared.alarm.LanAlarm.TheVariants.{LanSilent, CaptureEnded, Behind, Full}
use Rattle.sr_watch.specs.declared.lan.Lan.{Lan}
use Rattle.sr_watch.specs.declared.lan.LanRaisedSince.{LanRaisedSince}
use Rattle.sr_watch.specs.Running.{is_running, is_ended}

-- since when each alarm of a capture is raised
abbrev pub lan_raised_at : LanAlarm → LanRaisedSince → Option ℕ
lan_raised_at LanSilent r = r.silent
lan_raised_at CaptureEnded r = r.ended
lan_raised_at Behind r = r.behind
lan_raised_at Full r = r.full

abbrev pub with_lan_raised : LanAlarm → Option ℕ → LanRaisedSince → LanRaisedSince
with_lan_raised LanSilent since r = record r { silent = since }
with_lan_raised CaptureEnded since r = record r { ended = since }
with_lan_raised Behind since r = record r { behind = since }
with_lan_raised Full since r = record r { full = since }

-- an alarm holds: it runs and no packet came for longer than a time; it has ended; a copy was behind the mark since the last check; or as
-- many copies wait as may
abbrev pub lan_holds : LanAlarm → ℕ → ℕ → ℕ → ℕ → Lan → Bool
lan_holds LanSilent alone_for now behind held lan = is_running lan.phase && nat_lt alone_for (now - lan.heard)
lan_holds CaptureEnded alone_for now behind held lan = is_ended lan.phase
lan_holds Behind alone_for now behind held lan = nat_lt lan.told_behind behind
lan_holds Full alone_for now behind held lan = nat_le line_room held

-- how many copies behind the mark were told of
abbrev pub behind_told : LanAlarm → ℕ → ℕ → ℕ
behind_told LanSilent behind told = told
behind_told CaptureEnded behind told = told
behind_told Behind behind told = behind
behind_told Full behind told = told

abbrev pub lan_checked : LanAlarm → Option ℕ → ℕ → Lan → Lan
lan_checked alarm since behind lan =
    record lan { told_behind = behind_told alarm behind lan.told_behind; raised = with_lan_raised alarm since lan.raised }

-- since when it holds: since its last packet, or the mark where none came
abbrev pub last_or : ℕ → Option ℕ → ℕ
last_or mark None = mark
last_or mark (Some last) = last
