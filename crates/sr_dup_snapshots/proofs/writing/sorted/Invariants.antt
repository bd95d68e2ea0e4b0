use Rattle.std.proofs.Common.{◌≡◌, ◌++◌}
use Rattle.std.specs.Map.{keys_of}
use Rattle.sr_dup_table.specs.Shown.{sources_of}
use Rattle.sr_dup_snapshots.proofs.writing.sorted.Given as goal

-- the addresses so far, and those that are left, are all
abbrev pub invariant-loop-src : goal.invariant-loop-src
invariant-loop-src g l = l.macs.items ++ keys_of (sources_of l.src-iterator) ≡ keys_of l.table.sources
