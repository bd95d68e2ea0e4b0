-- A standby that takes over at once: no premise of the laws is empty.
use Rattle.std.specs.Prelude.{ℕ, ℤ, pos}
use Rattle.sr_frame.specs.declared.fields.Mac.{Mac}
use Rattle.sr_dup_window.specs.declared.lane_sets.Lanes.{Lanes}
use Rattle.sr_dup_window.specs.Bins.{IsWidth}
use Rattle.sr_laws_dup.specs.TableRuns.{Noting}
use Rattle.sr_laws_dup_joins.specs.Growths.{Growth, empty, arrived, merged, IsSteady}
use Rattle.sr_laws_dup_joins.specs.GrowthLaws.{KeepsAll}

-- a number of a source that is noted at a time
abbrev pub noted : Mac → ℕ → Lanes → ℤ → Noting
noted src now lanes number = record { arrival = record { src = src; number = number; time = now }; lanes = lanes }

-- two numbers of a source, one after the other
abbrev pub two_noted : Mac → ℕ → Lanes → ℤ → ℤ → Growth
two_noted src now lanes first second = arrived (arrived empty (noted src now lanes first)) (noted src now lanes second)

-- one table noted 1 and then 2, the other 3 and then 2; then they were merged
abbrev pub taken_over : Mac → ℕ → Lanes → Growth
taken_over src now lanes = merged (two_noted src now lanes (pos 1) (pos 2)) (two_noted src now lanes (pos 3) (pos 2)) now

-- it is a steady tree, and nothing is forgotten
abbrev pub TakenOverIsSteady : Type 0
TakenOverIsSteady = (w : ℕ) → IsWidth w → (src : Mac) (now : ℕ) (lanes : Lanes) →
    IsSteady w (taken_over src now lanes) × KeepsAll now (taken_over src now lanes)
