use Rattle.std.proofs.Common.{◌≡◌, ◌-◌, ◌*◌, ◌++◌, length}
use Rattle.sr_dup_table.specs.Widths.{numbers_in}
use Rattle.sr_dup_snapshots.specs.Snapshots.{source_len}
use Rattle.sr_dup_snapshots.specs.Reading.{sources_in, recut}
use Rattle.sr_dup_snapshots.proofs.ReadLemmas.{CanGoOn}
use Rattle.sr_dup_snapshots.proofs.reading.built.Given as goal

-- the sources so far and those that are left are all, and those that are left can follow
abbrev pub invariant-loop-place : goal.invariant-loop-place
invariant-loop-place g l = record {
  rest : length l.rest ≡ source_len (numbers_in l.text.width) * (l.text.count - l.place);
  read : l.table.sources ++ recut (64 * g.row.N) (sources_in (numbers_in l.text.width) (l.text.count - l.place) l.rest)
      ≡ recut (64 * g.row.N) (sources_in (numbers_in l.text.width) l.text.count l.text.sources.now);
  many : length l.table.sources ≡ l.place;
  next : CanGoOn (numbers_in l.text.width) (l.text.count - l.place) l.rest l.table.sources;
}
