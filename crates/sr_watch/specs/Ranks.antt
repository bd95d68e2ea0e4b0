-- By what sources are forgotten.
use Rattle.std.specs.Prelude.{ℕ, if◌then◌else◌}
use Rattle.sr_watch.specs.declared.tracked.Tracked.{Tracked}
use Rattle.sr_watch.specs.Limits.{end_of_time}

-- when the last copy of a source came, where a line has told all of it and no frame waited then; else it is not forgotten
abbrev pub rank_in : Tracked → ℕ
rank_in t = if t.is_settled then t.newest else end_of_time
