use Rattle.std.proofs.Common.{arith}
use Rattle.sr_dup_table.specs.Widths.{numbers_in}
use Rattle.sr_dup_snapshots.proofs.ReadLemmas.{some-lanes}
use Rattle.sr_dup_snapshots.proofs.TextLemmas.{some-numbers}
use Rattle.sr_dup_snapshots.proofs.reading.add.Goals as goal

pub read_record-seen-requires : goal.read_record-seen-requires
read_record-seen-requires g c = (
  omega (arith, c.requires.record),
  (
    c.requires.record,
    (
      omega (arith, c.in-Some.ensures.rest, c.requires.size),
      some-lanes (numbers_in c.args.width) (some-numbers c.args.width) c.args.source.now c.in-Some.fields.lanes.now c.in-Some.ensures.lanes c.requires.some,
    ),
  ),
)
