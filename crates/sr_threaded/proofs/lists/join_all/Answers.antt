use Rattle.std.proofs.Common.{rules, arith, [], ◌∷◌, ◌++◌, ap, ◌∙◌}
use Rattle.std.proofs.lemmas.Grind.{common_steps}
use Rattle.std.specs.Prelude.{option_to_list}
use Rattle.std.specs.Vec.Iter.{into_iter_items}
use Rattle.sr_threaded.proofs.Zipped.{one_joined, all_joined}
use Rattle.sr_threaded.proofs.lists.join_all.Goals as goal

pub loop-a-preserved : goal.loop-a-preserved
loop-a-preserved g c =
    let was = c.loop-a.invariant in
    let next = c.next-in-loop-a.ensures.items ∙ ap (λ o. option_to_list o ++ into_iter_items c.next-in-loop-a.new.self) c.unwrap-b.ensures in (
      was.0,
      grind (arith, common_steps),
      grind (arith, common_steps),
      one_joined _ _ _ _ _ _ _ _ _ c.in-Some.a c.unwrap-b.result c.join.result was.3 c.in-Some.ensures.steps.0 next c.join.ensures (c.push_reserved.ensures.items ∙ ap (λ l. l ++ c.join.result ∷ []) c.reserve.ensures.items),
    )

pub returns-clause-each : goal.returns-clause-each
returns-clause-each g c i a b x low =
    all_joined _ _ _ _ _ _ c.loop-a.invariant.3 (search rules) i a b x (search rules)
