-- Up to when all arrivals came.
use Rattle.std.specs.Prelude.{ℕ, ◌+◌, nat_lt, Bool, true, false, if◌then◌else◌}
use Rattle.sr_hold.specs.declared.mark.Mark.{Mark}

-- all that lies before a time came, or all up to it
abbrev pub before_time : ℕ → Mark
before_time time = record { time = time; is_inclusive = false }

abbrev pub up_to_time : ℕ → Mark
up_to_time time = record { time = time; is_inclusive = true }

-- the first time that does not lie on this side of the mark
abbrev pub limit_at : Bool → ℕ → ℕ
limit_at true time = time + 1
limit_at false time = time

abbrev pub limit : Mark → ℕ
limit mark = limit_at mark.is_inclusive mark.time

-- a moment lies on this side of the mark: nothing earlier can come
abbrev pub passes : Mark → ℕ → Bool
passes mark moment = nat_lt moment (limit mark)

-- the later one of two marks
abbrev pub later_mark : Mark → Mark → Mark
later_mark mark next = if passes next mark.time then next else mark
