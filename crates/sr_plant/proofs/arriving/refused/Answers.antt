use Rattle.std.proofs.Common.{rules}
use Rattle.sr_plant.proofs.arriving.refused.Goals as goal

pub returns-in-Reading : goal.returns-in-Reading
returns-in-Reading c = search rules

pub returns-in-OutboxFull-clause-ok : goal.returns-in-OutboxFull-clause-ok
returns-in-OutboxFull-clause-ok c = search rules
