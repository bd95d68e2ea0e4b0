use Rattle.sr_dup_table.proofs.JoinLawLemmas.{merge_commutes_lem}
use Rattle.sr_dup_table.proofs.join_laws.merge_commutes.Goals as goal

pub returns : goal.returns
returns c = merge_commutes_lem
