use Rattle.sr_audit.proofs.LawLemmas.{numbers_add}
use Rattle.sr_audit.proofs.laws.numbers_add_up.Goals as goal

pub returns : goal.returns
returns c = numbers_add
