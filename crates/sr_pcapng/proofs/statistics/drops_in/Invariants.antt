use Rattle.std.proofs.Common.{length}
use Rattle.sr_pcapng.proofs.Drops.{Goes}
use Rattle.sr_pcapng.proofs.statistics.drops_in.Given as goal

abbrev pub invariant-loop-rest : goal.invariant-loop-rest
invariant-loop-rest l = Goes l.order l.fn.octets l.rest l.known

abbrev pub decreases-loop-rest : goal.decreases-loop-rest
decreases-loop-rest l = length l.rest
