-- How many numbers of a source the tables of a plant's nodes remember.
use Rattle.std.specs.Prelude.{ℕ, zero, suc, min, max, List, [], ◌∷◌}
use Rattle.sr_dup_table.specs.Limits.{window, wide_window}
use Rattle.sr_node.specs.Starts.{Start, width_of}
use Rattle.sr_laws_plant.specs.Widths.{Widths}

-- the fewest numbers that any node's table remembers, and the most
abbrev pub least_width : List Start → ℕ
least_width [] = wide_window
least_width (r ∷ starts) = min (width_of r) (least_width starts)

abbrev pub greatest_width : List Start → ℕ
greatest_width [] = window
greatest_width (r ∷ starts) = max (width_of r) (greatest_width starts)

-- how many the table of node k remembers; where there is no such node, it is the first argument
abbrev pub width_at : ℕ → List Start → ℕ → ℕ
width_at other [] k = other
width_at other (r ∷ starts) zero = width_of r
width_at other (r ∷ starts) (suc k) = width_at other starts k

-- the widths of all, as the laws of networks ask for them
abbrev pub widths_of : List Start → Widths
widths_of starts = record {
  at = width_at (least_width starts) starts;
  least = least_width starts;
  greatest = greatest_width starts;
}
