use Rattle.std.proofs.Common.{rules}
use Rattle.sr_plant.proofs.traffic.Traffic.mend.Goals as goal

pub returns-clause-cut : goal.returns-clause-cut
returns-clause-cut c = search rules
