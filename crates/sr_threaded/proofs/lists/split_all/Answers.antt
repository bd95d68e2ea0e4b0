use Rattle.std.proofs.Common.{rules, arith, [], ◌∷◌, ◌++◌, ap, ◌∙◌}
use Rattle.std.proofs.lemmas.Grind.{common_steps}
use Rattle.sr_threaded.proofs.Zipped.{one_split, all_split, zipped_at}
use Rattle.sr_threaded.proofs.lists.split_all.Goals as goal

pub loop-item-preserved : goal.loop-item-preserved
loop-item-preserved g c =
    let was = c.loop-item.invariant in (
      was.0,
      grind (arith, common_steps),
      grind (arith, common_steps),
      one_split _ _ _ _ _ _ _ _ c.in-Some.item c.split-a.result.0 c.split-a.result.1 was.3 c.in-Some.ensures.steps.0 c.split-a.ensures (c.push_reserved.ensures.items ∙ ap (λ l. l ++ c.split-a.result.0 ∷ []) c.reserve.ensures.items) (c.push_reserved-in-loop-item.ensures.items ∙ ap (λ l. l ++ c.split-a.result.1 ∷ []) c.reserve-in-loop-item.ensures.items),
    )

pub returns-clause-each : goal.returns-clause-each
returns-clause-each g c i x a b low =
    zipped_at _ _ _ _ (all_split _ _ _ _ _ c.loop-item.invariant.3 (search rules)) i x a b (search rules)
