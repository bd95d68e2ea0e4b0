use Rattle.std.proofs.Common.{◌≡◌, ◌++◌, ◌*◌, take}
use Rattle.std.specs.List.{flat_map, AllByRecursion}
use Rattle.sr_dup_snapshots.specs.Snapshots.{source_octets, IsSource}
use Rattle.sr_dup_snapshots.specs.Ordered.{sources_at}
use Rattle.sr_dup_snapshots.proofs.writing.put_sources.Given as goal

-- the octets of the sources so far
abbrev pub invariant-loop-src : goal.invariant-loop-src
invariant-loop-src g l = record {
  spelled : l.out.items ≡ l.fn.out.items ++ flat_map (source_octets (64 * g.row.N)) (sources_at l.table.sources (take l.src-index l.macs));
  each : AllByRecursion (IsSource (64 * g.row.N)) (sources_at l.table.sources (take l.src-index l.macs));
}
