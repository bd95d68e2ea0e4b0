use Rattle.std.proofs.Common.{rules}
use Rattle.sr_supervision.proofs.reading.life_of.Goals as goal

pub returns-in_default-clause-some : goal.returns-in_default-clause-some
returns-in_default-clause-some c = search rules
