use Rattle.std.proofs.Common.{rules}
use Rattle.sr_aged_slots.proofs.table.fn.AgedSlots.update_at.update_at.Goals as goal

pub returns : goal.returns
returns g c = search rules
