use Rattle.std.proofs.Common.{◌≡◌, ◌+◌, ◌≤◌, length}
use Rattle.sr_dup_table.specs.Sources.{live_at}
use Rattle.sr_dup_table.specs.Shown.{sources_of}
use Rattle.sr_dup_table.proofs.merging.live_count.Given as goal

-- the live ones so far and those that are left are all live ones
abbrev pub invariant-loop-entry : goal.invariant-loop-entry
invariant-loop-entry g l = record {
  together : l.count + length (live_at l.now (sources_of l.entry-iterator)) ≡ length (live_at l.now l.table.sources);
  few : length (live_at l.now l.table.sources) ≤ 1024;
}
