use Rattle.std.proofs.Common.{arith, ◌∙◌}
use Rattle.sr_lines.proofs.Spread.{one_more_empty}
use Rattle.sr_lines.proofs.lan.Lan.take_between.Goals as goal

pub loop-at-preserved : goal.loop-at-preserved
loop-at-preserved g c =
    let was = c.loop-at.invariant in
    let none = c.in_default.ensures.taken in (
      c.take_at.ensures.counts ∙ was.0,
      c.take_at.ensures.wires ∙ was.1,
      c.take_at.ensures.sent ∙ was.2,
      none.0 ∙ was.3,
      c.take_at.ensures.seen ∙ was.4,
      omega (arith, was.5),
      one_more_empty _ _ _ _ _ _ was.6 was.3 was.4 none.1,
    )
