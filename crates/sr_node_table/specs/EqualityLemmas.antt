-- The test of two tables is an equivalence: each of its parts is.
use Rattle.std.specs.Cmp.{IsEquivalence, and_equiv, on_equiv, nat_eq_equiv}
use Rattle.std.specs.Cmp.Lexicographic.{lists_equiv}
use Rattle.sr_frame.specs.contracts.ports.PortEq.TheImpl.Laws as port
use Rattle.sr_node_table.specs.contracts.node.NodeEq.TheImpl.Laws as node
use Rattle.sr_node_table.specs.contracts.alarm.AlarmEq.TheImpl.Laws as alarm
use Rattle.sr_node_table.specs.Equality.{same_entry, same_entries, same_late, same_table}

same_entry-equiv : IsEquivalence same_entry
same_entry-equiv = and_equiv (on_equiv (λ e. e.value) node.laws-law) (on_equiv (λ e. e.time) nat_eq_equiv)

same_entries-equiv : IsEquivalence same_entries
same_entries-equiv = lists_equiv (and_equiv (on_equiv (λ e. e.0.0) (lists_equiv nat_eq_equiv)) (on_equiv (λ e. e.1) same_entry-equiv))

same_late-equiv : IsEquivalence same_late
same_late-equiv = lists_equiv (and_equiv (on_equiv (λ p. p.0.0) (lists_equiv nat_eq_equiv)) (on_equiv (λ p. p.1) port.laws-law))

pub same_table-equiv : IsEquivalence same_table
same_table-equiv =
    and_equiv (on_equiv (λ t. t.entries) same_entries-equiv)
    (and_equiv (on_equiv (λ t. t.alarms) (lists_equiv alarm.laws-law)) (on_equiv (λ t. t.late) same_late-equiv))
