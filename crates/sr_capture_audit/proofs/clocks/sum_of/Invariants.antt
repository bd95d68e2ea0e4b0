use Rattle.std.proofs.Common.{length}
use Rattle.sr_capture_audit.proofs.clocks.sum_of.Given as goal

abbrev pub decreases-loop-front : goal.decreases-loop-front
decreases-loop-front l = length l.rest
