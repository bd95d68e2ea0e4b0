-- The figures of all sources together.
use Rattle.std.specs.Prelude.{ℕ, ◌+◌, ◌-◌, ◌^◌, min, ℤ, Option, Some, None, List, fold}
use Rattle.std.specs.Int.{int_min, int_max}
use Rattle.sr_page.specs.declared.table.SourceRow.{SourceRow}
use Rattle.sr_page.specs.declared.totals.Totals.{Totals}

-- two counts together, up to the greatest of 64 bits
abbrev pub together : ℕ → ℕ → ℕ
together a b = min (a + b) (2 ^ 64 - 1)

-- the lesser of two skews, where there are two
abbrev pub lesser_skew : Option ℤ → Option ℤ → Option ℤ
lesser_skew None next = next
lesser_skew (Some own) None = Some own
lesser_skew (Some own) (Some next) = Some (int_min own next)

-- the greater one
abbrev pub greater_skew : Option ℤ → Option ℤ → Option ℤ
greater_skew None next = next
greater_skew (Some own) None = Some own
greater_skew (Some own) (Some next) = Some (int_max own next)

-- what tells of losses: frames by both LANs, and those that one lost
abbrev pub judged_in : SourceRow → ℕ
judged_in row = together (together row.pairs row.lost_a) row.lost_b

-- the figures of no source
abbrev pub no_sums : Totals
no_sums = record { sources = 0; frames = 0; pairs = 0; judged = 0; lost_a = 0; lost_b = 0; neither = 0; least = None; greatest = None }

-- with a source more
abbrev pub sums_with : Totals → SourceRow → Totals
sums_with sums row = record {
  sources = together sums.sources 1;
  frames = together sums.frames row.frames;
  pairs = together sums.pairs row.pairs;
  judged = together sums.judged (judged_in row);
  lost_a = together sums.lost_a row.lost_a;
  lost_b = together sums.lost_b row.lost_b;
  neither = together sums.neither row.neither;
  least = lesser_skew sums.least row.least;
  greatest = greater_skew sums.greatest row.greatest;
}

-- those of all sources
abbrev pub sum_up : List SourceRow → Totals
sum_up rows = fold sums_with no_sums rows
