-- What the fields of a table show, and what holds of them.
use Rattle.std.specs.Prelude.{◌≡◌, ◌+◌, ◌≤◌, [], length}
use Rattle.sr_node_table.specs.Limits.{most_nodes, most_alarms}
use Rattle.sr_node_table.specs.Nodes.{Nodes}
use Rattle.sr_node_table.specs.declared.table.NodeTable.TheInside.{Inside}

abbrev pub shown : Inside → Nodes
shown t = record { table = record { entries = t.nodes.entries; alarms = t.alarms.items; late = t.late.ports }; held = t.nodes.held }

-- there is room for the alarms, and for what the next prune finds late
pub record IsReady (t : Inside) : Type 0 where
  pub alarms : t.alarms.capacity ≡ most_alarms
  pub late : most_nodes ≤ length t.late.ports + t.late.room
  pub spare : t.spare.ports ≡ []
  pub room : most_nodes ≤ t.spare.room
