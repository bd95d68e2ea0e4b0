use Rattle.std.proofs.Common.{arith}
use Rattle.sr_aged_slots.proofs.BoundLemmas.{bounded_push}
use Rattle.sr_aged_slots.proofs.table.AgedSlots.append.Goals as goal

pub invariant_of-self-else-is_crowded : goal.invariant_of-self-else-is_crowded
invariant_of-self-else-is_crowded g c =
    rw (c.in_ok-append.ensures.entries, c.min-self-inside.ensures) (bounded_push g.row.SPAN g.row.MOST c.self.inside.slots.entries c.args.key (record { value = c.args.value; time = c.args.now }) c.self.inside.oldest c.self.inside.is_exact (omega arith) (omega arith) c.self.invariant)
