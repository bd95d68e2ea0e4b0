use Rattle.std.proofs.Common.{◌≡◌, ◌++◌}
use Rattle.std.specs.List.{filter_map}
use Rattle.sr_node_table.specs.Stating.{live_mac}
use Rattle.sr_node_table.proofs.table.NodeTable.list.Given as goal

-- what was gathered, and what the rest gives
abbrev pub invariant-loop-mac : goal.invariant-loop-mac
invariant-loop-mac l = l.macs.items ++ filter_map (live_mac l.now) l.mac-iterator ≡ filter_map (live_mac l.now) l.self.table.entries
