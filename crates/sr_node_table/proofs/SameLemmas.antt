-- Tables that are tested as one are one.
use Rattle.std.proofs.Common.{◌≡◌, eqb, ◌&&◌, ap, rules}
use Rattle.std.specs.Cmp.Lexicographic.{pointwise, pointwise_decides}
use Rattle.std.specs.Bool.{Decides}
use Rattle.std.proofs.lemmas.Bool.Decides.{Decides-eqb, Decides-like, Decides-and, nat_tests}
use Rattle.sr_frame.specs.declared.fields.Mac.{Mac}
use Rattle.sr_frame.specs.declared.ports.Port.{Port}
use Rattle.sr_frame.specs.contracts.ports.PortPartialEq.TheImpl as port
use Rattle.sr_node_table.specs.contracts.node.NodePartialEq.TheImpl as node
use Rattle.sr_node_table.specs.contracts.alarm.AlarmPartialEq.TheImpl as alarm
use Rattle.sr_node_table.specs.declared.alarm.Alarm.{Alarm}
use Rattle.sr_node_table.specs.declared.node.Node.{Node}
use Rattle.sr_node_table.specs.Nodes.{Entry, Table}
use Rattle.sr_node_table.specs.Equality.{same_entry, same_entries, same_alarms, same_late, same_table}

Decides-port : (a b : Port) → Decides ((port.ghosts).eq a b) (a ≡ b)
Decides-port a b = search (rules, nat_tests)

Decides-node : (a b : Node) → Decides ((node.ghosts).eq a b) (a ≡ b)
Decides-node a b = search (rules, nat_tests)

Decides-alarm : (a b : Alarm) → Decides ((alarm.ghosts).eq a b) (a ≡ b)
Decides-alarm a b = search (rules, nat_tests)

Decides-mac : (a b : Mac) → Decides (pointwise eqb a.0 b.0) (a ≡ b)
Decides-mac a b =
    Decides-like (pointwise eqb a.0 b.0) (λ e. λ i. record { 0 = e i }) (λ e. ap (λ (m : Mac). m.0) e) (pointwise_decides Decides-eqb a.0 b.0)

Decides-entry : (a b : Entry) → Decides (same_entry a b) (a ≡ b)
Decides-entry a b =
    Decides-like (same_entry a b) (λ e. λ i. record { value = e.0 i; time = e.1 i })
    (λ e. (ap (λ (h : Entry). h.value) e, ap (λ (h : Entry). h.time) e))
    (Decides-and ((node.ghosts).eq a.value b.value) (eqb a.time b.time) (Decides-node a.value b.value) (Decides-eqb a.time b.time))

Decides-listed : (a b : Mac × Entry) → Decides (pointwise eqb a.0.0 b.0.0 && same_entry a.1 b.1) (a ≡ b)
Decides-listed a b =
    Decides-like (pointwise eqb a.0.0 b.0.0 && same_entry a.1 b.1) (λ e. λ i. (e.0 i, e.1 i))
    (λ e. (ap (λ (s : Mac × Entry). s.0) e, ap (λ (s : Mac × Entry). s.1) e))
    (Decides-and (pointwise eqb a.0.0 b.0.0) (same_entry a.1 b.1) (Decides-mac a.0 b.0) (Decides-entry a.1 b.1))

Decides-late : (a b : Mac × Port) → Decides (pointwise eqb a.0.0 b.0.0 && (port.ghosts).eq a.1 b.1) (a ≡ b)
Decides-late a b =
    Decides-like (pointwise eqb a.0.0 b.0.0 && (port.ghosts).eq a.1 b.1) (λ e. λ i. (e.0 i, e.1 i))
    (λ e. (ap (λ (s : Mac × Port). s.0) e, ap (λ (s : Mac × Port). s.1) e))
    (Decides-and (pointwise eqb a.0.0 b.0.0) ((port.ghosts).eq a.1 b.1) (Decides-mac a.0 b.0) (Decides-port a.1 b.1))

pub Decides-same_table : (s t : Table) → Decides (same_table s t) (s ≡ t)
Decides-same_table s t =
    Decides-like (same_table s t) (λ e. λ i. record { entries = e.0 i; alarms = e.1.0 i; late = e.1.1 i })
    (λ e. (ap (λ (x : Table). x.entries) e, (ap (λ (x : Table). x.alarms) e, ap (λ (x : Table). x.late) e)))
    (Decides-and (same_entries s.entries t.entries) (same_alarms s.alarms t.alarms && same_late s.late t.late)
    (pointwise_decides Decides-listed s.entries t.entries)
    (Decides-and (same_alarms s.alarms t.alarms) (same_late s.late t.late) (pointwise_decides Decides-alarm s.alarms t.alarms) (pointwise_decides Decides-late s.late t.late)))
