use Rattle.std.proofs.Common.{rules}
use Rattle.sr_slots.proofs.putting.fill.Goals as goal

pub returns-clause-slot : goal.returns-clause-slot
returns-clause-slot g c = search rules
