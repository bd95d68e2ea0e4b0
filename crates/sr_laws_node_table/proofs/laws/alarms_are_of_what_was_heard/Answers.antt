use Rattle.sr_laws_node_table.proofs.LawLemmas.{alarms_are_the_latest, each_event_adds_its_alarms}
use Rattle.sr_laws_node_table.proofs.ExactLemmas.{ring_errors_are_exact, node_downs_are_exact}
use Rattle.sr_laws_node_table.proofs.laws.alarms_are_of_what_was_heard.Goals as goal

pub returns : goal.returns
returns c = record { latest = alarms_are_the_latest; each = each_event_adds_its_alarms; ring_errors = ring_errors_are_exact; node_downs = node_downs_are_exact }
