use Rattle.std.proofs.Common.{◌≡◌, ℕ, ◌+◌, ℤ, ap, subst, arith}
use Rattle.std.proofs.Math.Facts.{to_z-of_z}
use Rattle.std.specs.Int.{w128}
use Rattle.sr_options.specs.Shifts.{others_longer, AreSetBack}
use Rattle.sr_options.proofs.merge_line.MergeTask.by_clock_of_a.Goals as goal

pub returns-clause-some : goal.returns-clause-some
returns-clause-some c =
    let delays = c.in_ok-delays.delays in
    let are = subst (λ (z : ℤ). AreSetBack c.args.self.now.options.delays z delays) (to_z-of_z {w = w128} {z = c.args.ahead} c.ranges.ahead) c.in_ok-delays.ensures.some in
    let early : c.in_ok-early.early ≡ c.args.self.now.early + others_longer c.args.ahead = omega (arith, c.in_ok-early.ensures, are.of_a) in
    record {
      delays = delays;
      are = are;
      is = ap (λ (n : ℕ). record c.args.self.now { options = record c.args.self.now.options { delays = delays }; early = n }) early;
    }
