use Rattle.std.proofs.Common.{◌≡◌}
use Rattle.sr_dup_table.specs.Sources.{same_sources}
use Rattle.sr_dup_table.specs.Shown.{sources_of}
use Rattle.sr_dup_table.proofs.equality.same_entries.Given as goal

-- the entries that are left say whether all are the same
abbrev pub invariant-loop-src : goal.invariant-loop-src
invariant-loop-src g l = same_sources (sources_of l.src-iterator) (sources_of l.other) ≡ same_sources (sources_of l.fn.one) (sources_of l.fn.other)
