use Rattle.std.proofs.Common.{rules}
use Rattle.sr_aged_slots.proofs.table.AgedSlots.iter.Goals as goal

pub returns-clause-rest : goal.returns-clause-rest
returns-clause-rest g c = search rules
