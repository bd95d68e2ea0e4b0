-- How far both captures are known, and the mark.
use Rattle.std.specs.Prelude.{ℕ, max, min, Bool, true, false}
use Rattle.sr_hold.specs.declared.mark.Mark.{Mark}
use Rattle.sr_hold.specs.declared.pace.Pace.{Pace}
use Rattle.sr_hold.specs.declared.progress.Progress.{Progress}
use Rattle.sr_hold.specs.declared.recorder.Recorder.{Recorder}
use Rattle.sr_hold.specs.declared.recorder.Recorder.TheVariants.{A, B}
use Rattle.sr_hold.specs.Marks.{before_time, up_to_time, later_mark}
use Rattle.sr_hold.specs.Paces.{begun_at, newest_of, own_moment, clock_of, told_at, arrived, quiet, begun_again, ended_now}

-- both recorders begin at a real time
abbrev pub begun : ℕ → ℕ → Progress
begun slack now = record { a = begun_at now; b = begun_at now; slack = slack; mark = before_time 0 }

abbrev pub pace_of : Recorder → Progress → Pace
pace_of A g = g.a
pace_of B g = g.b

abbrev pub with_pace : Recorder → Pace → Progress → Progress
with_pace A p g = record g { a = p }
with_pace B p g = record g { b = p }

-- all came of both up to what is told of both; of an ended one all came, and of both all that there is
abbrev pub aim_if : Bool → Bool → Pace → Pace → Mark
aim_if true true a b = before_time (min a.told b.told)
aim_if true false a b = before_time a.told
aim_if false true a b = before_time b.told
aim_if false false a b = up_to_time (max (newest_of a) (newest_of b))

abbrev pub aim : Pace → Pace → Mark
aim a b = aim_if a.is_running b.is_running a b

-- the mark goes there, and never back
abbrev pub advanced : Progress → Progress
advanced g = record g { mark = later_mark g.mark (aim g.a g.b) }

abbrev pub put : Recorder → Pace → Progress → Progress
put r p g = advanced (with_pace r p g)

-- where the capture clock is at least
abbrev pub capture_clock : Progress → ℕ → ℕ
capture_clock g now = max (clock_of g.a now) (clock_of g.b now)

-- a recorder has an arrival, another packet, or nothing; it ended, or begins once more
abbrev pub arrived_by : Recorder → ℕ → ℕ → Progress → Progress
arrived_by r time now g = put r (arrived g.mark (pace_of r g) time now) g

abbrev pub heard_by : Recorder → ℕ → ℕ → Progress → Progress
heard_by r time now g = put r (told_at (pace_of r g) (own_moment (pace_of r g) time) now) g

abbrev pub silent_by : Recorder → ℕ → Progress → Progress
silent_by r now g = put r (quiet g.slack (capture_clock g now) (pace_of r g) now) g

abbrev pub ended_by : Recorder → Progress → Progress
ended_by r g = put r (ended_now (pace_of r g)) g

abbrev pub begun_by : Recorder → ℕ → Progress → Progress
begun_by r now g = put r (begun_again (pace_of r g) now) g
