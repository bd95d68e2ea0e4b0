use Rattle.sr_laws_dup_joins.proofs.ExampleLemmas.{taken_over_is_steady}
use Rattle.sr_laws_dup_joins.proofs.laws.a_standby_is_steady.Goals as goal

pub returns : goal.returns
returns c = taken_over_is_steady
