use Rattle.std.proofs.Common.{◌*◌, ◌∙◌, sym, ap, subst}
use Rattle.sr_dup_table.specs.Sources.{live_at}
use Rattle.sr_dup_table.specs.Joins.{IsJoin, with_sources}
use Rattle.sr_dup_table.proofs.JoinLemmas.{with-is-join, distinct-live}
use Rattle.sr_dup_table.proofs.merging.join_of.Goals as goal

pub returns-clause-joins : goal.returns-clause-joins
returns-clause-joins g c =
    let one = live_at c.args.now c.args.table.now.sources in
    let all = live_at c.args.now c.args.other.now.sources in
    let aged = c.age-forgotten.ensures.sources ∙ ap (live_at c.args.now) c.in_ok-both.ensures.sources in
    let is = c.in_ok-hold_as.ensures.sources ∙ c.in_ok-take_all.ensures.joined ∙ ap (λ s. with_sources (64 * g.row.N) s all) aged in
    subst (IsJoin (64 * g.row.N) one all) (sym is) (with-is-join (64 * g.row.N) one all (distinct-live c.args.now c.args.other.now.sources c.requires.unique))
