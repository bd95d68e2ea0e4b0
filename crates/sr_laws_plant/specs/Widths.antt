-- How many numbers of a source the tables of members remember, each its own count.
use Rattle.std.specs.Prelude.{ℕ, ◌≤◌}
use Rattle.sr_dup_window.specs.Bins.{IsWidth}
use Rattle.sr_dup_table.specs.Limits.{window}

-- that of each member, and bounds for all of them
pub record Widths : Type 0 where
  pub at : ℕ → ℕ
  pub least : ℕ
  pub greatest : ℕ

-- each is the width of a table and lies between the bounds
pub record AreWidths (ws : Widths) : Type 0 where
  pub width : (k : ℕ) → IsWidth (ws.at k)
  pub least : (k : ℕ) → ws.least ≤ ws.at k
  pub greatest : (k : ℕ) → ws.at k ≤ ws.greatest

-- all tables are narrow
abbrev pub all_narrow : Widths
all_narrow = record { at = λ k. window; least = window; greatest = window }
