use Rattle.std.proofs.Common.{◌∙◌, ◌+◌, ap, length, arith}
use Rattle.sr_node_table.proofs.table.NodeTable.watch.Goals as goal

pub invariant_of-self : goal.invariant_of-self
invariant_of-self c = record {
  alarms = ap (λ b. b.capacity) c.watch.ensures.alarms ∙ c.self.invariant.alarms;
  late = let e = ap (λ l. length l.ports + l.room) c.swap.ensures.x_after in omega (arith, e, c.watch.ensures.room, c.self.invariant.room);
  spare = c.clear.ensures.ports;
  room = let e = ap (λ l. length l.ports + l.room) c.swap.ensures.y_after in omega (arith, e, c.clear.ensures.room, c.self.invariant.late);
}
