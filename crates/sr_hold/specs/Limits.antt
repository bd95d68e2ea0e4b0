-- How many arrivals wait.
use Rattle.std.specs.Prelude.{ℕ}

-- the most arrivals of a recorder that wait (choice of this project)
abbrev pub line_room : ℕ
line_room = 262144
