use Rattle.std.proofs.Common.{rules}
use Rattle.sr_aged_slots.proofs.table.AgedSlots.hold_both.Goals as goal

pub returns-clause-held : goal.returns-clause-held
returns-clause-held g c = search rules
