-- The mark never goes back, and goes as far as is aimed at.
use Rattle.std.proofs.Common.{◌≡◌, ℕ, ◌+◌, ◌<◌, ◌≤◌, max, Bool, true, false, nat_lt, if◌then◌else◌, refl, arith}
use Rattle.std.proofs.lemmas.Bool.{ltb-true, ltb-false, true≢false}
use Rattle.sr_hold.specs.declared.mark.Mark.{Mark}
use Rattle.sr_hold.specs.declared.pace.Pace.{Pace}
use Rattle.sr_hold.specs.declared.progress.Progress.{Progress}
use Rattle.sr_hold.specs.declared.recorder.Recorder.{Recorder}
use Rattle.sr_hold.specs.declared.recorder.Recorder.TheVariants.{A, B}
use Rattle.sr_hold.specs.Marks.{limit_at, limit, later_mark}
use Rattle.sr_hold.specs.Paces.{newest_of}
use Rattle.sr_hold.specs.Pacing.{aim_if, aim, advanced, put}

pub limit-low : (b : Bool) (time : ℕ) → time ≤ limit_at b time
limit-low true time = omega arith
limit-low false time = omega arith

pub limit-high : (b : Bool) (time : ℕ) → limit_at b time ≤ time + 1
limit-high true time = omega arith
limit-high false time = omega arith

first_by : (b : Bool) (m n : Mark) → (b ≡ true → m.time < limit n) → limit m ≤ limit (if b then n else m)
first_by true m n lt = let l = lt refl in omega (arith, limit-high m.is_inclusive m.time, l)
first_by false m n lt = omega arith

second_by : (b : Bool) (m n : Mark) → (b ≡ false → limit n ≤ m.time) → limit n ≤ limit (if b then n else m)
second_by true m n le = omega arith
second_by false m n le = let l = le refl in omega (arith, limit-low m.is_inclusive m.time, l)

pub later-first : (m n : Mark) → limit m ≤ limit (later_mark m n)
later-first m n = first_by (nat_lt m.time (limit n)) m n (λ yes. ltb-true m.time (limit n) yes)

pub later-second : (m n : Mark) → limit n ≤ limit (later_mark m n)
later-second m n = second_by (nat_lt m.time (limit n)) m n (λ no. ltb-false m.time (limit n) no)

pub put-mark : (r : Recorder) (p : Pace) (g : Progress) → limit g.mark ≤ limit (put r p g).mark
put-mark A p g = later-first g.mark (aim p g.b)
put-mark B p g = later-first g.mark (aim g.a p)

shut_by : (runs_a runs_b : Bool) (a b : Pace) (m : Mark) → runs_a ≡ false → runs_b ≡ false →
    max (newest_of a) (newest_of b) < limit (later_mark m (aim_if runs_a runs_b a b))
shut_by true runs_b a b m off_a off_b = absurd (true≢false off_a)
shut_by false true a b m off_a off_b = absurd (true≢false off_b)
shut_by false false a b m off_a off_b = let far = later-second m (aim_if false false a b) in omega (arith, far)

-- once both have ended, the newest moments of both lie on this side of the mark
pub shut_advanced : (g : Progress) → g.a.is_running ≡ false → g.b.is_running ≡ false →
    max (newest_of g.a) (newest_of g.b) < limit (advanced g).mark
shut_advanced g off_a off_b = shut_by g.a.is_running g.b.is_running g.a g.b g.mark off_a off_b
