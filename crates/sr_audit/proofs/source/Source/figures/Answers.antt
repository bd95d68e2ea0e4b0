use Rattle.std.proofs.Common.{◌-◌, length, arith, ap, ◌∙◌}
use Rattle.std.specs.Prelude.{sum_by}
use Rattle.sr_audit.proofs.FitLemmas.{neither_left}
use Rattle.sr_audit.proofs.FollowLemmas.{length-stretches}
use Rattle.sr_audit.specs.Stretches.{stretches}
use Rattle.sr_audit.proofs.source.Source.figures.Goals as goal

pub returns-clause-neither : goal.returns-clause-neither
returns-clause-neither c = λ spans xs exact taken.
    let ss = stretches xs in
    let kept = (taken.extent exact).reach in
    c.saturating_sub.ensures
    ∙ ap (λ n. c.args.self.now.extent.lengths - n) c.frames_in.ensures
    ∙ neither_left ss c.tally-tally.result c.args.self.now.extent.lengths (sum_by length ss) (c.tally-tally.ensures.tally spans xs taken)
    kept.lengths kept.few (omega (arith, exact, length-stretches xs))

pub returns-clause-order : goal.returns-clause-order
returns-clause-order c = λ spans xs exact taken. λ i. record { a = (taken.extent exact).reach.order_a i; b = (taken.extent exact).reach.order_b i }

pub returns-clause-jumps : goal.returns-clause-jumps
returns-clause-jumps c = λ spans xs exact taken. (taken.extent exact).jumps

pub returns-clause-restarts : goal.returns-clause-restarts
returns-clause-restarts c = λ spans xs exact taken. (taken.extent exact).restarts

pub returns-clause-skews : goal.returns-clause-skews
returns-clause-skews c = λ spans xs exact taken. (taken.skews exact).shown
