use Rattle.sr_node.proofs.EventLemmas.{Decides-event, Decides-answer}
use Rattle.sr_node.proofs.laws.equal_where_events_are.Goals as goal

pub returns-clause-events : goal.returns-clause-events
returns-clause-events c = Decides-event

pub returns-clause-answers : goal.returns-clause-answers
returns-clause-answers c = Decides-answer
