use Rattle.std.proofs.Common.{arith}
use Rattle.std.proofs.lemmas.Grind.{common_steps}
use Rattle.sr_supervision.proofs.writing.put_content.Goals as goal

pub returns-clause-octets : goal.returns-clause-octets
returns-clause-octets c = grind (arith, common_steps)
