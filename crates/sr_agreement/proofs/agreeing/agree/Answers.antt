use Rattle.std.proofs.Common.{rules, ap, ◌∙◌, refl, sym, subst, [], ◌∷◌, ◌≡◌}
use Rattle.sr_agreement.specs.Agreement.{arrivals_in}
use Rattle.sr_workers.specs.Work.{parcels_in}
use Rattle.sr_agreement.proofs.Left.{Left, left_all, left_step, left_none}
use Rattle.sr_agreement.proofs.Pending.{end_none, end_some, empty}
use Rattle.sr_agreement.proofs.agreeing.agree.Goals as goal

pub loop-pair-preserved : goal.loop-pair-preserved
loop-pair-preserved g c =
    let was = c.loop-pair.invariant in
    let step = c.after.ensures.after was.0 was.1 in
    let rest : c.loop-pair.rest.now ≡ c.in-Some.pair.now ∷ c.in-Some.behind.now = search rules in
    (step.0, step.1, left_step _ _ _ c.in-Some.pair.now c.in-Some.behind.now was.0 step.0 (subst (λ r. Left (g.G.Framing.meaning c.args.framing.now) (parcels_in c.args.takes.now) (arrivals_in c.args.source c.args.arrivals.now) r was.0) rest was.2) step.2, search rules)

pub returns-in-None-clause-agreement : goal.returns-in-None-clause-agreement
returns-in-None-clause-agreement g c =
    let was = c.loop-pair.invariant in
    left_none _ _ _ _ was.0 _ (subst (λ r. Left (g.G.Framing.meaning c.args.framing.now) (parcels_in c.args.takes.now) (arrivals_in c.args.source c.args.arrivals.now) r was.0) (empty _ c.in_default.ensures.cases) was.2)
    (end_none (λ o. o.now) _ was.0 c.loop-pair.first c.in-None.is was.1)

pub returns-in-Some-first-clause-agreement : goal.returns-in-Some-first-clause-agreement
returns-in-Some-first-clause-agreement g c =
    let was = c.loop-pair.invariant in
    left_none _ _ _ _ was.0 _ (subst (λ r. Left (g.G.Framing.meaning c.args.framing.now) (parcels_in c.args.takes.now) (arrivals_in c.args.source c.args.arrivals.now) r was.0) (empty _ c.in_default.ensures.cases) was.2)
    (end_some (λ o. o.now) _ was.0 c.loop-pair.first _ c.in-Some-first.is was.1)
