-- The times of a merge, in nanoseconds.
use Rattle.std.specs.Prelude.{ℕ}

-- a copy that comes so much behind the first one is no longer waited for: 400 ms (choice of this project)
abbrev pub copy_time : ℕ
copy_time = 400000000

-- the step of the clock of the duplicate record, which remembers a silent source for 400 steps: 400.197 to 401.2 ms, and so no less than
-- copies are waited for (choice of this project)
abbrev pub record_step : ℕ
record_step = 1003000

-- the most packets that wait for a copy (choice of this project)
abbrev pub most_held : ℕ
most_held = 262144
