-- Columns of time.
use Rattle.std.specs.Prelude.{ℕ, ◌+◌, ◌-◌, ◌*◌, ◌/◌, min, max, Option, Some, None}
use Rattle.sr_audit.specs.declared.span.Span.{Span}
use Rattle.sr_audit.specs.declared.span.Spans.{Spans}

-- how many columns there are (choice of this project)
abbrev pub many_columns : ℕ
many_columns = 500

-- the column of a time, where those from the first to the last are divided; what lies outside is in the first or the last column
abbrev pub column_of : ℕ → ℕ → ℕ → ℕ
column_of first last time = min ((time - first) * many_columns / (last - first + 1)) (many_columns - 1)

-- from the first packet of either capture to the last one
abbrev pub first_in : Option Span → Option Span → ℕ
first_in (Some a) (Some b) = min a.first b.first
first_in (Some a) None = a.first
first_in None (Some b) = b.first
first_in None None = 0

abbrev pub end_of_both : Option Span → Option Span → ℕ
end_of_both (Some a) (Some b) = max a.last b.last
end_of_both (Some a) None = a.last
end_of_both None (Some b) = b.last
end_of_both None None = 0

abbrev pub picture_start : Spans → ℕ
picture_start spans = first_in spans.a spans.b

abbrev pub picture_end : Spans → ℕ
picture_end spans = end_of_both spans.a spans.b

-- how many counts of skews a column has, and the place of one among those of all columns
abbrev pub many_bins : ℕ
many_bins = 64

abbrev pub bin_place : ℕ → ℕ → ℕ
bin_place at bin = min at (many_columns - 1) * many_bins + min bin (many_bins - 1)
