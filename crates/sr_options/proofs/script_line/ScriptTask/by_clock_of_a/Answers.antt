use Rattle.std.proofs.Common.{ℤ, subst, refl}
use Rattle.std.proofs.Math.Facts.{to_z-of_z}
use Rattle.std.specs.Int.{w128}
use Rattle.sr_options.specs.Shifts.{AreSetBack}
use Rattle.sr_options.proofs.script_line.ScriptTask.by_clock_of_a.Goals as goal

pub returns-clause-some : goal.returns-clause-some
returns-clause-some c = record {
  delays = c.in_ok-delays.delays;
  are = subst (λ (z : ℤ). AreSetBack c.args.self.now.options.delays z c.in_ok-delays.delays) (to_z-of_z {w = w128} {z = c.args.ahead} c.ranges.ahead) c.in_ok-delays.ensures.some;
  is = refl;
}
