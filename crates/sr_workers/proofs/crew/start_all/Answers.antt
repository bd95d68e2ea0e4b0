use Rattle.std.proofs.Common.{rules, arith, ◌+◌, vec_items, get_or, sym, ap, ◌∙◌, subst}
use Rattle.std.specs.Vec.Iter.{into_iter_items}
use Rattle.sr_workers.specs.Crews.{IsStartOf}
use Rattle.sr_workers.proofs.Rows.{behind, each_more}
use Rattle.sr_workers.proofs.crew.start_all.Goals as goal

pub loop-kit-preserved : goal.loop-kit-preserved
loop-kit-preserved g c =
    let was = c.loop-kit.invariant in
    let steps = c.in-Some.ensures.steps in (
      search rules,
      grind rules,
      (λ k j d below is. behind (into_iter_items c.loop-kit.kit-iterator) (vec_items c.args.kits) (into_iter_items c.next.new.self) c.in-Some.kit k j d steps.0 (was.2 (k + 1) j d (omega arith) (omega arith))),
      λ i k h below. each_more
          (λ i h kit. IsStartOf c.args.turns kit h.promise)
          (vec_items c.loop-kit.handles) (vec_items c.push_reserved.new.self) (vec_items c.args.kits) c.in-Ok.handle c.loop-kit.number
          (search rules) (search rules) was.3
          (λ k. let is = ap (λ l. get_or l 0 k) (sym steps.0) ∙ was.2 0 c.loop-kit.number k (omega arith) (omega arith) in
          subst (λ x. IsStartOf c.args.turns x c.in-Ok.handle.promise) is c.in-Ok.ensures.start)
          i k h below,
    )

pub returns-clause-each : goal.returns-clause-each
returns-clause-each g c i k h below = c.loop-kit.invariant.3 i k h (grind rules)
