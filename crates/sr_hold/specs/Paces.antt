-- How far the capture of one recorder is known.
use Rattle.std.specs.Prelude.{ℕ, ◌+◌, ◌-◌, ◌^◌, nat_lt, max, min, Bool, true, false, Option, None, Some, if◌then◌else◌}
use Rattle.sr_hold.specs.declared.mark.Mark.{Mark}
use Rattle.sr_hold.specs.declared.pace.Pace.{Pace}
use Rattle.sr_hold.specs.Marks.{passes}

-- a recorder that begins at a real time
abbrev pub begun_at : ℕ → Pace
begun_at now = record { newest = None; heard = now; told = 0; is_running = true; behind = 0 }

abbrev pub moment_or_0 : Option ℕ → ℕ
moment_or_0 None = 0
moment_or_0 (Some moment) = moment

-- the moment of its newest packet
abbrev pub newest_of : Pace → ℕ
newest_of p = moment_or_0 p.newest

-- the moment of a packet in its own capture: its time, but not before the packet ahead of it
abbrev pub own_moment : Pace → ℕ → ℕ
own_moment p time = max time (newest_of p)

-- the moment of an arrival: not before the mark either
abbrev pub moment_at : Mark → Pace → ℕ → ℕ
moment_at mark p time = max (own_moment p time) mark.time

-- an arrival comes behind the mark: by its own capture it lies on this side
abbrev pub is_behind : Mark → Pace → ℕ → Bool
is_behind mark p time = passes mark (own_moment p time)

-- where the capture clock is at least: at the newest moment, and the real time since then behind it, in 64 bits
abbrev pub clock_since : Option ℕ → ℕ → ℕ → ℕ
clock_since None heard now = 0
clock_since (Some moment) heard now = min (moment + (now - heard)) (2 ^ 64 - 1)

abbrev pub clock_of : Pace → ℕ → ℕ
clock_of p now = clock_since p.newest p.heard now

-- a packet of this moment came at this real time
abbrev pub told_at : Pace → ℕ → ℕ → Pace
told_at p moment now =
    record { newest = Some moment; heard = now; told = max p.told moment; is_running = true; behind = p.behind }

-- one more came behind the mark, or not
abbrev pub more_behind : Bool → ℕ → ℕ
more_behind true n = min (n + 1) (2 ^ 64 - 1)
more_behind false n = n

-- an arrival of this time came
abbrev pub arrived : Mark → Pace → ℕ → ℕ → Pace
arrived mark p time now =
    record (told_at p (moment_at mark p time) now) { behind = more_behind (is_behind mark p time) p.behind }

-- nothing had come for the slack, when the capture clock was there: all of it came up to the slack before
abbrev pub quiet : ℕ → ℕ → Pace → ℕ → Pace
quiet slack clock p now = if nat_lt (now - p.heard) slack then p else record p { told = max p.told (clock - slack) }

-- it begins once more, or ended
abbrev pub begun_again : Pace → ℕ → Pace
begun_again p now = record p { heard = now; is_running = true }

abbrev pub ended_now : Pace → Pace
ended_now p = record p { is_running = false }
