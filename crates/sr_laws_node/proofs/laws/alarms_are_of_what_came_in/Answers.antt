use Rattle.sr_laws_node.proofs.AlarmLemmas.{alarms_lem}
use Rattle.sr_laws_node.proofs.laws.alarms_are_of_what_came_in.Goals as goal

pub returns : goal.returns
returns c = alarms_lem c.alarms_are_of_what_was_heard.ensures.latest c.nodes_are_those_that_are_heard.ensures.list c.nodes_are_those_that_are_heard.ensures.status
