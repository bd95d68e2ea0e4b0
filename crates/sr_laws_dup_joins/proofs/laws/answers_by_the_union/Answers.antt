use Rattle.sr_laws_dup_joins.proofs.GrowthLemmas.{answers_by_the_union}
use Rattle.sr_laws_dup_joins.proofs.laws.answers_by_the_union.Goals as goal

pub returns : goal.returns
returns c = answers_by_the_union
