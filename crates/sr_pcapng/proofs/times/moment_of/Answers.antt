use Rattle.std.proofs.Common.{arith}
use Rattle.std.proofs.lemmas.Int.{ints, clamps}
use Rattle.sr_pcapng.proofs.times.moment_of.Goals as goal

pub returns-clause-moment : goal.returns-clause-moment
returns-clause-moment c = omega (arith, ints, clamps)
