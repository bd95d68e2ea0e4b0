use Rattle.std.proofs.Common.{arith}
use Rattle.sr_session.proofs.WaitingTexts.{line_here, line_on, line_nowhere}
use Rattle.sr_session.proofs.waiting.line_of.Goals as goal

pub returns-then-place-mark : goal.returns-then-place-mark
returns-then-place-mark c = line_here c.args.marks.now c.loop-mark.mark-index c.args.place c.loop-mark-test.true c.loop-mark.invariant c.if-place-mark.true

pub loop-mark-preserved : goal.loop-mark-preserved
loop-mark-preserved c = line_on c.args.marks.now c.loop-mark.mark-index c.args.place c.loop-mark-test.true c.loop-mark.invariant c.if-place-mark.false

pub returns : goal.returns
returns c = line_nowhere c.args.marks.now c.loop-mark.mark-index c.args.place (omega arith) c.loop-mark.invariant
