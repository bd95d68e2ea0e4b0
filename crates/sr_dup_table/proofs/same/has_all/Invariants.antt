use Rattle.std.proofs.Common.{◌≡◌}
use Rattle.sr_dup_table.specs.Same.{has_all}
use Rattle.sr_dup_table.specs.Shown.{sources_of}
use Rattle.sr_dup_table.proofs.same.has_all.Given as goal

-- the entries that are left say whether all are there
abbrev pub invariant-loop-src : goal.invariant-loop-src
invariant-loop-src g l = has_all l.table.sources (sources_of l.src-iterator) ≡ has_all l.fn.table.sources (sources_of l.fn.entries)
