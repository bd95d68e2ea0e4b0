use Rattle.std.proofs.Common.{◌≡◌, ◌+◌, ◌≤◌, length}
use Rattle.sr_dup_table.specs.Sources.{live_at}
use Rattle.sr_dup_table.specs.Joins.{lacking_in, join_count, first_apart, or_else}
use Rattle.sr_dup_table.specs.Shown.{sources_of}
use Rattle.sr_dup_table.proofs.merging.join_fault.Given as goal

-- what was seen, and what is left to see, is all that there is to see
abbrev pub invariant-loop-src : goal.invariant-loop-src
invariant-loop-src g l =
    let one = live_at l.now l.table.sources in
    let rest = live_at l.now (sources_of l.src-iterator) in
    let all = live_at l.now l.other.sources in
    record {
      count : l.tally.count + length (lacking_in one rest) ≡ join_count one all;
      apart : or_else l.tally.apart (first_apart one rest) ≡ first_apart one all;
      few : join_count one all ≤ 2048;
    }
