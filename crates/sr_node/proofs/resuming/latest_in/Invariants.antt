use Rattle.std.proofs.Common.{◌≡◌}
use Rattle.std.specs.Prelude.{max}
use Rattle.sr_dup_table.specs.Shown.{sources_of}
use Rattle.sr_node.specs.Resuming.{last_heard}
use Rattle.sr_node.proofs.resuming.latest_in.Given as goal

-- the greatest so far and that of those that are left is that of all
abbrev pub invariant-loop-entry : goal.invariant-loop-entry
invariant-loop-entry g l = max l.latest (last_heard (sources_of l.entry-iterator)) ≡ last_heard l.table.sources
