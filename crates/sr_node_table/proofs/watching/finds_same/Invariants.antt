use Rattle.std.proofs.Common.{◌≤◌, length}
use Rattle.sr_node_table.proofs.WatchLemmas.{Same}
use Rattle.sr_node_table.proofs.watching.finds_same.Given as goal

abbrev pub invariant-loop-mac : goal.invariant-loop-mac
invariant-loop-mac l = record {
  same : Same l.before.ports l.now l.nodes.entries l.found l.mac-iterator;
  within : l.found ≤ length l.before.ports;
}
