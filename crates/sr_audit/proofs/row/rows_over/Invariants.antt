use Rattle.std.proofs.Common.{◌≡◌}
use Rattle.sr_dup_window.specs.Windows.{window_of}
use Rattle.sr_audit.specs.Rows.{rows_kept}
use Rattle.sr_audit.proofs.row.rows_over.Given as goal

abbrev pub invariant-loop-steps : goal.invariant-loop-steps
invariant-loop-steps l = l.rows ≡ rows_kept l.spans (window_of l.numbers.seen) l.moments.times.items l.steps l.fn.first
