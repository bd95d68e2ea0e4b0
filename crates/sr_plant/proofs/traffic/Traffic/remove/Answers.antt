use Rattle.std.proofs.Common.{rules}
use Rattle.sr_plant.proofs.traffic.Traffic.remove.Goals as goal

pub returns-clause-copies : goal.returns-clause-copies
returns-clause-copies c = search rules
