use Rattle.std.proofs.Common.{rules}
use Rattle.sr_plant.proofs.traffic.Traffic.reserve.Goals as goal

pub returns-clause-rest : goal.returns-clause-rest
returns-clause-rest c = search rules
