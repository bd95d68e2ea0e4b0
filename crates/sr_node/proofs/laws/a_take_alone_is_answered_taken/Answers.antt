use Rattle.sr_node.proofs.AnswerLemmas.{answered}
use Rattle.sr_node.proofs.laws.a_take_alone_is_answered_taken.Goals as goal

pub returns : goal.returns
returns c = answered
