use Rattle.std.proofs.Common.{rules, ◌≡◌, [], ◌∷◌}
use Rattle.sr_agreement.proofs.Pending.{empty}
use Rattle.sr_threaded.proofs.Asking.{one_more, all_asked, goes_on, stays}
use Rattle.sr_threaded.proofs.sources.agrees_with_all.Goals as goal

pub loop-end-preserved-then-all : goal.loop-end-preserved-then-all
loop-end-preserved-then-all g c =
    let rest : c.loop-end.rest.now ≡ c.in-Some.end.now ∷ c.in-Some.behind.now = search rules in
    (search rules, one_more _ _ _ _ c.args.ends.now c.loop-end.rest.now c.in-Some.behind.now c.in-Some.end.now c.loop-end.all _ c.agrees_with-agrees.result c.loop-end.invariant.1 rest c.agrees_with-agrees.ensures.agreement (goes_on _ _ c.if-all.true))

pub loop-end-preserved : goal.loop-end-preserved
loop-end-preserved g c =
    let rest : c.loop-end.rest.now ≡ c.in-Some.end.now ∷ c.in-Some.behind.now = search rules in
    (search rules, one_more _ _ _ _ c.args.ends.now c.loop-end.rest.now c.in-Some.behind.now c.in-Some.end.now c.loop-end.all _ c.agrees_with-agrees.result c.loop-end.invariant.1 rest c.agrees_with-agrees.ensures.agreement (stays _ _ c.if-all.false))

pub returns-clause-agreement : goal.returns-clause-agreement
returns-clause-agreement g c =
    let none : c.loop-end.rest.now ≡ [] = empty _ c.in_default.ensures.cases in
    all_asked _ _ _ _ c.args.ends.now c.loop-end.rest.now c.loop-end.all c.loop-end.invariant.1 none
