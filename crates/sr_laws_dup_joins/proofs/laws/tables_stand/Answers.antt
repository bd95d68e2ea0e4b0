use Rattle.sr_laws_dup_joins.proofs.GrowthLemmas.{tables_stand}
use Rattle.sr_laws_dup_joins.proofs.laws.tables_stand.Goals as goal

pub returns : goal.returns
returns c = tables_stand
