use Rattle.std.proofs.Common.{◌≤◌, ◌-◌}
use Rattle.sr_capture.specs.TakingLemmas.{LosesSome}
use Rattle.sr_capture.proofs.taking.skip.Given as goal

abbrev pub invariant-loop-skipped : goal.invariant-loop-skipped
invariant-loop-skipped g l = record {
  few : l.skipped ≤ l.count;
  lost : LosesSome l.skipped (g.R.Read.remaining l.fn.reader) (g.R.Read.remaining l.reader);
}

abbrev pub decreases-loop-skipped : goal.decreases-loop-skipped
decreases-loop-skipped g l = l.count - l.skipped
