use Rattle.std.proofs.Common.{rules, arith, ◌≡◌, [], ◌∷◌, ◌++◌, vec_items, sym, ap, ◌∙◌, subst}
use Rattle.std.proofs.lemmas.Grind.{common_steps}
use Rattle.std.specs.Prelude.{All}
use Rattle.std.proofs.lemmas.List.Elements.{All-push}
use Rattle.sr_lines.specs.declared.ends.Ends.{Ends}
use Rattle.sr_threaded.specs.Joined.{AreAllUnused, IsUnused}
use Rattle.sr_threaded.proofs.Joining.{row_added, row_unused, lan_whole}
use Rattle.sr_threaded.proofs.wiring.with_node.Goals as goal

pub loop-row-preserved : goal.loop-row-preserved
loop-row-preserved c =
    let was = c.loop-row.invariant in
    let is : vec_items c.push_reserved.new.self ≡ vec_items c.loop-row.all ++ c.in_ok-row.row ∷ [] = c.push_reserved.ensures.items ∙ ap (λ l. l ++ c.in_ok-row.row ∷ []) c.reserve.ensures.items in
    let unused = row_unused _ _ _ _ _ _ c.in-Some.row c.in_ok-row.row c.in_ok-there.there c.in_ok-there.here was.2 was.3 was.4 c.in-Some.ensures.steps.0 c.in_ok-row.ensures c.in_ok-there.ensures.first c.in_ok-there.ensures.second is c.in_ok-own.ensures in (
      grind (arith, common_steps),
      row_added _ _ _ _ _ _ _ c.in-Some.row c.in_ok-row.row c.in_ok-there.there c.in_ok-there.here was.1 c.in-Some.ensures.steps.0 c.in_ok-row.ensures c.in_ok-there.ensures.joined is c.in_ok-own.ensures,
      unused.0,
      unused.1,
      unused.2,
    )

pub returns-clause-lan : goal.returns-clause-lan
returns-clause-lan c =
    let was = c.loop-row.invariant in
    let is : vec_items c.push_reserved-2.new.self ≡ vec_items c.loop-row.all ++ c.loop-row.own ∷ [] = c.push_reserved-2.ensures.items ∙ ap (λ l. l ++ c.loop-row.own ∷ []) c.reserve-2.ensures.items in
    lan_whole _ _ _ _ c.loop-row.own was.1 (search rules) c.requires.lan is

pub returns-clause-unused : goal.returns-clause-unused
returns-clause-unused c =
    let was = c.loop-row.invariant in
    let is : vec_items c.push_reserved-2.new.self ≡ vec_items c.loop-row.all ++ c.loop-row.own ∷ [] = c.push_reserved-2.ensures.items ∙ ap (λ l. l ++ c.loop-row.own ∷ []) c.reserve-2.ensures.items in
    subst (λ l. AreAllUnused l) (sym is) (All-push (λ r. All (λ (e : Ends). IsUnused e) r.items) (vec_items c.loop-row.all) c.loop-row.own was.3 was.4)
