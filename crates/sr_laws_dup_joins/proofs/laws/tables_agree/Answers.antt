use Rattle.sr_laws_dup_joins.proofs.AgreeLemmas.{tables_agree}
use Rattle.sr_laws_dup_joins.proofs.laws.tables_agree.Goals as goal

pub returns : goal.returns
returns c = tables_agree
