use Rattle.std.proofs.Common.{arith}
use Rattle.std.proofs.lemmas.Grind.{common_steps}
use Rattle.sr_pcapng.proofs.options.front_of.Goals as goal

pub returns-then-size-octets : goal.returns-then-size-octets
returns-then-size-octets c = grind (arith, common_steps)

pub returns : goal.returns
returns c = grind (arith, common_steps)
