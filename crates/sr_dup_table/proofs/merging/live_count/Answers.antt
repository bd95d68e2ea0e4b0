use Rattle.std.proofs.Common.{◌∙◌, ap, arith, length}
use Rattle.sr_dup_table.specs.Sources.{live_at}
use Rattle.sr_dup_table.specs.Shown.{sources_of}
use Rattle.sr_dup_table.proofs.SourceLemmas.{length-live_le}
use Rattle.sr_dup_table.proofs.merging.live_count.Goals as goal

pub loop-entry-init : goal.loop-entry-init
loop-entry-init g c =
    let e = ap sources_of c.into_iter-entry-iterator.ensures.into_iter_gives ∙ c.entries-entry-items.ensures in
    record {
      together = omega (arith, ap (λ s. length (live_at c.args.now s)) e);
      few = omega (arith, length-live_le c.args.now c.args.table.now.sources, c.requires.table.few);
    }
