use Rattle.std.proofs.Common.{◌∙◌, arith, length, ap}
use Rattle.sr_aged_slots.proofs.BoundLemmas.{full_is}
use Rattle.sr_aged_slots.proofs.table.AgedSlots.is_full.Goals as goal

pub returns-then-len : goal.returns-then-len
returns-then-len g c =
    let l = ap (λ t. length t.entries) c.self.view_is in
    c.all_are_live.ensures ∙ full_is g.row.SPAN c.args.now g.row.MOST c.args.self.now.entries c.self.invariant.some_span (omega arith) (omega (arith, l, c.self.invariant.few)) (omega (arith, l, c.len.ensures.len, c.if-len.true))
