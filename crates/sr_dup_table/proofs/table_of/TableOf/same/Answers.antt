use Rattle.std.proofs.Common.{◌≡◌, ◌∙◌, sym, ap, length}
use Rattle.std.proofs.lemmas.Bool.{eqb-true, eq-eqb}
use Rattle.sr_dup_table.specs.Same.{has_all}
use Rattle.sr_dup_table.proofs.SameLemmas.{same_from, same_gives}
use Rattle.sr_dup_table.proofs.table_of.TableOf.same.Goals as goal

pub returns-then-source_count : goal.returns-then-source_count
returns-then-source_count g c =
    let s = c.args.self.now.sources in
    let t = c.args.other.now.sources in
    let many : length s ≡ length t = sym c.source_count.ensures.count ∙ c.if-source_count.true ∙ c.source_count-2.ensures.count in
    let tested = c.has_all.ensures ∙ ap (has_all t) c.entries.ensures in (
      λ e. same_from s t c.source_count.ensures.table.unique many (sym tested ∙ e),
      λ same. tested ∙ (same_gives s t c.source_count.ensures.table c.source_count-2.ensures.table same).1,
    )

pub returns-else-source_count : goal.returns-else-source_count
returns-else-source_count g c =
    let s = c.args.self.now.sources in
    let t = c.args.other.now.sources in (
      λ e. absurd (c.if-source_count.false (eqb-true c.source_count.result c.source_count-2.result e)),
      λ same. eq-eqb c.source_count.result c.source_count-2.result
          (c.source_count.ensures.count ∙ (same_gives s t c.source_count.ensures.table c.source_count-2.ensures.table same).0 ∙ sym c.source_count-2.ensures.count),
    )
