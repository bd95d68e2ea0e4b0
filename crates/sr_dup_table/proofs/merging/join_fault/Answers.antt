use Rattle.std.proofs.Common.{◌∙◌, ap, arith, length, rules}
use Rattle.sr_dup_table.specs.Sources.{live_at}
use Rattle.sr_dup_table.specs.Joins.{lacking_in, first_apart}
use Rattle.sr_dup_table.specs.Shown.{sources_of}
use Rattle.sr_dup_table.proofs.SourceLemmas.{length-live_le}
use Rattle.sr_dup_table.proofs.JoinLemmas.{lacking_le}
use Rattle.sr_dup_table.proofs.merging.join_fault.Goals as goal

pub loop-src-init : goal.loop-src-init
loop-src-init g c =
    let one = live_at c.args.now c.args.table.now.sources in
    let all = live_at c.args.now c.args.other.now.sources in
    let e = ap sources_of c.into_iter-src-iterator.ensures.into_iter_gives ∙ c.entries-src-items.ensures in
    record {
      count = omega (arith, c.live_count.ensures, ap (λ s. length (lacking_in one (live_at c.args.now s))) e);
      apart = ap (λ s. first_apart one (live_at c.args.now s)) e;
      few = omega (arith, lacking_le one all, length-live_le c.args.now c.args.table.now.sources, length-live_le c.args.now c.args.other.now.sources, c.requires.one.few, c.requires.other.few);
    }

pub returns-then-tally-gt-MAX_SOURCES : goal.returns-then-tally-gt-MAX_SOURCES
returns-then-tally-gt-MAX_SOURCES g c = search rules
