use Rattle.std.proofs.Common.{rules}
use Rattle.sr_aged_slots.proofs.table.AgedSlots.try_clone.Goals as goal

pub invariant_of-result : goal.invariant_of-result
invariant_of-result g c = search rules
