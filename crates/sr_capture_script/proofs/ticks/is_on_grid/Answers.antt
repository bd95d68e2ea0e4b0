use Rattle.std.proofs.Common.{arith}
use Rattle.sr_capture_script.proofs.Writing.{steps_within}
use Rattle.sr_capture_script.proofs.ticks.is_on_grid.Goals as goal

pub overflow_mul-result : goal.overflow_mul-result
overflow_mul-result c =
    omega (arith, steps_within c.args.from c.args.step c.args.time c.steps_to-steps.result (omega (arith, c.steps_to-steps.ensures)))

pub overflow_add-result : goal.overflow_add-result
overflow_add-result c =
    omega (arith, steps_within c.args.from c.args.step c.args.time c.steps_to-steps.result (omega (arith, c.steps_to-steps.ensures)))
