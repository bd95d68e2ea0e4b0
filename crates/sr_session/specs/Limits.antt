-- The limits that a script keeps to.
use Rattle.std.specs.Prelude.{ℕ}

-- the most octets of a line, without the LF that ends it (choice of this project)
abbrev pub longest_line : ℕ
longest_line = 8000

-- the most lines of a script (choice of this project)
abbrev pub most_lines : ℕ
most_lines = 1000000
