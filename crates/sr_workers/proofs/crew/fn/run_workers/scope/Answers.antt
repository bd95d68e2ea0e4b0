use Rattle.std.proofs.Common.{rules, ◌<◌, ℕ, vec_len, get_or, ap, ◌∙◌, subst}
use Rattle.sr_ports.specs.Stamps.{Stamp, stamp}
use Rattle.sr_workers.specs.Worked.{EndedAs}
use Rattle.sr_workers.proofs.crew.fn.run_workers.scope.Goals as goal

pub returns-in-Ok-join_promised : goal.returns-in-Ok-join_promised
returns-in-Ok-join_promised g c = (
  search rules,
  λ i k d below.
      let low : i < vec_len c.in-Ok.handles = search rules in
      let kept = (c.in-Ok-join_promised.ensures.each i d low).1 in
      let facts = c.in-Ok.ensures.each i k kept.handle below in
      let is = kept.handle_is in
      let done = get_or c.in-Ok-join_promised.all.items i d in
      let P : ℕ × Stamp × g.row.F.Denot × g.row.G.Denot → Type 0 =
      λ x. EndedAs g.F.Feed.name g.F.Feed.tells g.F.Feed.handed g.F.Feed.asked g.F.Feed.given g.F.Feed.losses g.F.Feed.failed g.F.Feed.ended (g.G.Framing.meaning x.3) x.0 x.1 x.2 done.0 done.1 in
      let turns = ap (λ h. h.promise.turns) is ∙ facts.turns_is in
      let pass = ap (λ h. stamp h.promise.worker h.promise.count) is ∙ facts.pass in
      let feed = ap (λ h. h.promise.feed.value) is ∙ facts.feed in
      let framing = ap (λ h. h.promise.framing.value) is ∙ facts.framing in
      subst P (λ j. (turns j, pass j, feed j, framing j)) kept.kept,
)
