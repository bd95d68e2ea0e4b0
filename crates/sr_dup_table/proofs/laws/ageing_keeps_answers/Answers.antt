use Rattle.sr_dup_table.proofs.RunLemmas.{ageing_keeps_answers_lem}
use Rattle.sr_dup_table.proofs.laws.ageing_keeps_answers.Goals as goal

pub returns : goal.returns
returns c = ageing_keeps_answers_lem
