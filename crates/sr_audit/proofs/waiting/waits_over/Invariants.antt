use Rattle.std.proofs.Common.{◌≡◌, ◌≤◌}
use Rattle.sr_dup_window.specs.Windows.{window_of}
use Rattle.sr_audit.specs.Waiting.{waits_kept}
use Rattle.sr_audit.proofs.waiting.waits_over.Given as goal

abbrev pub invariant-loop-steps : goal.invariant-loop-steps
invariant-loop-steps l =
    (l.waits ≡ waits_kept l.mark (window_of l.numbers.seen) l.moments.times.items l.steps) × (l.waits.a ≤ l.steps) × (l.waits.b ≤ l.steps)
