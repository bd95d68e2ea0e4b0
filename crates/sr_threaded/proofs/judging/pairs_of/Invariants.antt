use Rattle.std.proofs.Common.{◌≡◌, length}
use Rattle.sr_threaded.specs.Judged.{pairs_of}
use Rattle.sr_threaded.proofs.judging.pairs_of.Given as goal

abbrev pub invariant-loop-log : goal.invariant-loop-log
invariant-loop-log l = pairs_of l.fn.worker l.fn.logs ≡ pairs_of l.fn.worker l.rest

abbrev pub decreases-loop-log : goal.decreases-loop-log
decreases-loop-log l = length l.rest
