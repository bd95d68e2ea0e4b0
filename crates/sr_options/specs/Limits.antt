-- The bounds of options.
use Rattle.std.specs.Prelude.{ℕ}

-- reports of a watch are so many seconds apart at most (choice of this project)
abbrev pub most_every : ℕ
most_every = 3600

-- for how many milliseconds a recorder is taken to keep packets, at least and at most (choice of this project)
abbrev pub least_slack : ℕ
least_slack = 300

abbrev pub most_slack : ℕ
most_slack = 60000
