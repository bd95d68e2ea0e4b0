use Rattle.std.proofs.Common.{rules, ◌<◌, List, length, vec_items, get_or, ap, ◌∙◌, subst}
use Rattle.sr_ports.specs.declared.log.Log.{Log}
use Rattle.sr_threaded.specs.Judged.{IsJudged, before, behind}
use Rattle.sr_threaded.proofs.Rows.{any_default, push_each}
use Rattle.sr_threaded.proofs.judging.judge_ring.Goals as goal

pub loop-i-preserved : goal.loop-i-preserved
loop-i-preserved g c =
    let was = c.loop-i.invariant in
    let n = length c.args.ends.now in (
      search rules,
      search rules,
      λ k e j below.
          let xs = c.args.ends.now in
          let i = c.loop-i.i in
          let low : i < n = search rules in
          let low_b : c.before-in-loop-i.result < n = search rules in
          let low_f : c.behind.result < n = search rules in
          let at_b = c.index-ends-before.is ∙ any_default xs c.before-in-loop-i.result c.index-ends-before.result e low_b ∙ ap (λ m. get_or xs m e) c.before-in-loop-i.ensures.is in
          let at_i = c.index-ends-i.is ∙ any_default xs i c.index-ends-i.result e low in
          let at_f = c.index-ends-behind.is ∙ any_default xs c.behind.result c.index-ends-behind.result e low_f ∙ ap (λ m. get_or xs m e) c.behind.ensures.is in
          let new : IsJudged (get_or xs (before i n) e).logs.items (get_or xs i e).logs.items (get_or xs (behind i n) e).logs.items c.judge-judged.result =
          subst (λ (x : List Log × List Log × List Log). IsJudged x.0 x.1 x.2 c.judge-judged.result)
          (λ j. ((c.deref.ensures.value ∙ ap (λ y. y.logs.items) at_b) j, (c.deref-in-loop-i.ensures.value ∙ ap (λ y. y.logs.items) at_i) j, (c.deref-in-loop-i-2.ensures.value ∙ ap (λ y. y.logs.items) at_f) j))
          c.judge-judged.ensures.judged in
          push_each
          (λ m x. IsJudged (get_or c.args.ends.now (before m n) e).logs.items (get_or c.args.ends.now m e).logs.items (get_or c.args.ends.now (behind m n) e).logs.items x)
          (vec_items c.loop-i.all) (vec_items c.push_reserved.new.self) c.judge-judged.result c.loop-i.i (search rules) (search rules) (λ m d lt. was.2 m e d lt) new k j below,
    )
