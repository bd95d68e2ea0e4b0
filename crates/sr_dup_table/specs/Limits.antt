-- The numbers that a table of duplicate records keeps to.
use Rattle.std.specs.Prelude.{ℕ}

-- how many numbers of a source a narrow table remembers, up to the greatest one (IEC 62439-3 clause 4; the number is a choice of
-- this project)
abbrev pub window : ℕ
window = 1024

-- how many a wide one remembers (choice of this project)
abbrev pub wide_window : ℕ
wide_window = 2048

-- how many sources can be live at once (choice of this project)
abbrev pub most_sources : ℕ
most_sources = 1024

-- how long a silent source is remembered, in milliseconds: EntryForgetTime (IEC 62439-3 clauses 4 and 5)
abbrev pub forget_time : ℕ
forget_time = 400
