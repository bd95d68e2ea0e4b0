use Rattle.std.proofs.Common.{rules}
use Rattle.sr_plant.proofs.events.follows.Goals as goal

pub returns-then-now-clock-clause-err : goal.returns-then-now-clock-clause-err
returns-then-now-clock-clause-err c = search rules
