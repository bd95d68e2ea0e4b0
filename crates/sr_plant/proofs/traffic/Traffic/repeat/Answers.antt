use Rattle.std.proofs.Common.{rules}
use Rattle.sr_plant.proofs.traffic.Traffic.repeat.Goals as goal

pub returns-clause-ok : goal.returns-clause-ok
returns-clause-ok c = search rules
