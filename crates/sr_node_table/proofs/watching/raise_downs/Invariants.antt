use Rattle.std.proofs.Common.{◌≡◌}
use Rattle.sr_node_table.specs.Nodes.{down_of}
use Rattle.sr_node_table.proofs.WatchLemmas.{Raises}
use Rattle.sr_node_table.proofs.watching.raise_downs.Given as goal

abbrev pub invariant-loop-mac : goal.invariant-loop-mac
invariant-loop-mac l = record {
  raised : Raises (λ e. down_of e.0 e.1 l.now) l.fn.alarms.capacity l.fn.alarms.items l.nodes.entries l.alarms.items l.mac-iterator;
  capacity : l.alarms.capacity ≡ l.fn.alarms.capacity;
}
