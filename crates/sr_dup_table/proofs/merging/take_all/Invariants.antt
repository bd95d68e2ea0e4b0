use Rattle.std.proofs.Common.{◌≡◌, ◌*◌, ◌+◌, ◌≤◌, length}
use Rattle.std.specs.List.{IsDistinct}
use Rattle.std.specs.Map.{keys_of}
use Rattle.sr_frame.specs.Addresses.{mac_eq}
use Rattle.sr_dup_table.specs.Sources.{live_at}
use Rattle.sr_dup_table.specs.Joins.{lacking_in, join_count, first_apart, with_sources}
use Rattle.sr_dup_table.specs.Shown.{sources_of}
use Rattle.sr_dup_table.proofs.merging.take_all.Given as goal

-- what is left makes of the sources so far what all make of those at first, finds the same apart, and comes to as many
abbrev pub invariant-loop-src : goal.invariant-loop-src
invariant-loop-src g l =
    let rest = live_at l.now (sources_of l.src-iterator) in
    let others = live_at l.now l.other.sources in
    record {
      all : with_sources (64 * g.row.N) l.table.sources rest ≡ with_sources (64 * g.row.N) l.fn.table.sources others;
      close : first_apart l.table.sources rest ≡ first_apart l.fn.table.sources others;
      count : length l.table.sources + length (lacking_in l.table.sources rest) ≡ join_count l.fn.table.sources others;
      few : length l.table.sources ≤ 1024;
      unique : IsDistinct mac_eq (keys_of (sources_of l.src-iterator));
    }
