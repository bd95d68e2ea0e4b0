-- When two tables are equal: in their entries in order, their alarms, and what the previous prune found late.
use Rattle.std.specs.Prelude.{Bool, List, nat_eq}
use Rattle.std.specs.Ordering.{on, eq_of_both}
use Rattle.std.specs.Cmp.Lexicographic.{pointwise}
use Rattle.sr_frame.specs.declared.fields.Mac.{Mac}
use Rattle.sr_frame.specs.declared.ports.Port.{Port}
use Rattle.sr_frame.specs.contracts.ports.PortPartialEq.TheImpl as port
use Rattle.sr_node_table.specs.contracts.node.NodePartialEq.TheImpl as node
use Rattle.sr_node_table.specs.contracts.alarm.AlarmPartialEq.TheImpl as alarm
use Rattle.sr_node_table.specs.declared.alarm.Alarm.{Alarm}
use Rattle.sr_node_table.specs.Nodes.{Entry, Entries, Table}

-- two entries of a node
abbrev pub same_entry : Entry → Entry → Bool
same_entry = eq_of_both (on (λ e. e.value) (node.ghosts).eq) (on (λ e. e.time) nat_eq)

-- the entries of two tables: the order counts
abbrev pub same_entries : Entries → Entries → Bool
same_entries = pointwise (eq_of_both (on (λ e. e.0.0) (pointwise nat_eq)) (on (λ e. e.1) same_entry))

abbrev pub same_alarms : List Alarm → List Alarm → Bool
same_alarms = pointwise (alarm.ghosts).eq

abbrev pub same_late : List (Mac × Port) → List (Mac × Port) → Bool
same_late = pointwise (eq_of_both (on (λ p. p.0.0) (pointwise nat_eq)) (on (λ p. p.1) (port.ghosts).eq))

abbrev pub same_table : Table → Table → Bool
same_table =
    eq_of_both (on (λ t. t.entries) same_entries) (eq_of_both (on (λ t. t.alarms) same_alarms) (on (λ t. t.late) same_late))
