use Rattle.std.proofs.Common.{◌≡◌, ◌-◌, ◌*◌, length, None}
use Rattle.sr_dup_table.specs.Widths.{numbers_in}
use Rattle.sr_dup_snapshots.specs.Snapshots.{source_len}
use Rattle.sr_dup_snapshots.specs.Reading.{sources_in, are_in_order}
use Rattle.sr_dup_snapshots.proofs.reading.are_in_order.Given as goal

-- the sources are in order if those that are left go on so
abbrev pub invariant-loop-place : goal.invariant-loop-place
invariant-loop-place l = record {
  rest : length l.rest ≡ source_len (numbers_in l.text.width) * (l.text.count - l.place);
  order : are_in_order l.last (sources_in (numbers_in l.text.width) (l.text.count - l.place) l.rest)
      ≡ are_in_order None (sources_in (numbers_in l.text.width) l.text.count l.text.sources.now);
}
