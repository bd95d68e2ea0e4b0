use Rattle.std.proofs.Common.{rules, ◌<◌, length, vec_items, get_or, ◌∙◌, subst}
use Rattle.sr_threaded.specs.Sources.{IsJudgedInLans}
use Rattle.sr_threaded.proofs.Rows.{any_default, push_each}
use Rattle.sr_threaded.proofs.sources.judge_twin.Goals as goal

pub loop-i-preserved : goal.loop-i-preserved
loop-i-preserved g c =
    let was = c.loop-i.invariant in
    let xs = c.args.ends.now in (
      search rules,
      search rules,
      λ k e j below.
          let i = c.loop-i.i in
          let low : i < length xs = search rules in
          let here = c.index-ends-i.is ∙ any_default xs i c.index-ends-i.result e low in
          push_each
          (λ m x. IsJudgedInLans xs (get_or xs m e) x)
          (vec_items c.loop-i.all) (vec_items c.push_reserved.new.self) c.judge_in_lan-judged.result c.loop-i.i (search rules) (search rules) (λ m d lt. was.2 m e d lt)
          (subst (λ x. IsJudgedInLans xs x c.judge_in_lan-judged.result) here c.judge_in_lan-judged.ensures.judged) k j below,
    )
