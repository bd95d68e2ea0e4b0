-- The widths of tables of duplicate records.
use Rattle.std.specs.Prelude.{ℕ}
use Rattle.sr_dup_table.specs.declared.width.Width.{Width}
use Rattle.sr_dup_table.specs.declared.width.Width.TheVariants as width
use Rattle.sr_dup_table.specs.Limits.{window, wide_window}

-- how many numbers of a source a table of this width remembers
abbrev pub numbers_in : Width → ℕ
numbers_in width.Narrow = window
numbers_in width.Wide = wide_window
