-- Limits of a journal (choices of this project).
use Rattle.std.specs.Prelude.{ℕ}

-- the most entries of a journal
abbrev pub most_entries : ℕ
most_entries = 1000000
