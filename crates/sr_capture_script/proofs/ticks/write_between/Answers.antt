use Rattle.std.proofs.Common.{◌+◌, refl, arith}
use Rattle.sr_capture_script.proofs.Writing.{ticks_more, all_between, steps_within}
use Rattle.sr_capture_script.proofs.ticks.write_between.Goals as goal

pub loop-before-preserved : goal.loop-before-preserved
loop-before-preserved g c =
    ticks_more c.args.from c.args.step c.steps_to-gone.result c.loop-before.before _ (g.W.Write.contents c.args.writer.now)
    (g.W.Write.contents c.loop-before.writer) (g.W.Write.contents c.write_tick.new.writer) c.loop-before.invariant refl c.in_ok-write_tick.ensures.ok

pub returns-clause-ok : goal.returns-clause-ok
returns-clause-ok g c =
    all_between c.args.from c.args.step c.args.last c.args.time c.steps_to-gone.result c.loop-before.before (g.W.Write.contents c.args.writer.now)
    (g.W.Write.contents c.loop-before.writer) c.steps_to-gone.ensures (omega (arith, c.steps_to-gone.ensures, c.steps_to-all.ensures)) c.loop-before.invariant

pub overflow_mul-steps : goal.overflow_mul-steps
overflow_mul-steps g c =
    omega (arith, steps_within c.args.from c.args.step c.args.time (c.steps_to-gone.result + c.loop-before.before + 1) (omega (arith, c.steps_to-all.ensures)))

pub overflow_add-from : goal.overflow_add-from
overflow_add-from g c =
    omega (arith, steps_within c.args.from c.args.step c.args.time (c.steps_to-gone.result + c.loop-before.before + 1) (omega (arith, c.steps_to-all.ensures)))
