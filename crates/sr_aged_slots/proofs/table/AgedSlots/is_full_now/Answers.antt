use Rattle.std.proofs.Common.{rules}
use Rattle.sr_aged_slots.proofs.table.AgedSlots.is_full_now.Goals as goal

pub returns-clause-same : goal.returns-clause-same
returns-clause-same g c = search rules
