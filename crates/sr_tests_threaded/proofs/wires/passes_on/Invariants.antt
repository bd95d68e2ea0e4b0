use Rattle.std.proofs.Common.{◌≡◌}
use Rattle.sr_tests_threaded.proofs.wires.passes_on.Given as goal

abbrev pub invariant-loop-number : goal.invariant-loop-number
invariant-loop-number g l = (l.send.wire ≡ l.initial.send.wire) × (l.take.wire ≡ l.initial.take.wire)
