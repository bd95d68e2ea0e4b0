use Rattle.std.proofs.Common.{◌≡◌}
use Rattle.std.specs.Map.{lookup}
use Rattle.sr_frame.specs.Addresses.{mac_eq}
use Rattle.sr_node_table.specs.Watching.{late_port, alarm_of}
use Rattle.sr_node_table.proofs.WatchLemmas.{Raises, Finds}
use Rattle.sr_node_table.proofs.watching.watch.Given as goal

abbrev pub invariant-loop-mac : goal.invariant-loop-mac
invariant-loop-mac l = record {
  raised : Raises (λ e. alarm_of (lookup (mac_eq e.0) l.before.ports) (late_port l.now e.1) e.0 e.1 l.now) l.fn.alarms.capacity l.fn.alarms.items l.nodes.entries l.alarms.items l.mac-iterator;
  capacity : l.alarms.capacity ≡ l.fn.alarms.capacity;
  found : Finds (λ e. late_port l.now e.1) l.nodes.entries l.found.ports l.found.room l.fn.found.room l.mac-iterator;
}
