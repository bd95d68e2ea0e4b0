use Rattle.sr_dup_table.proofs.JoinLawLemmas.{merge_associates_lem}
use Rattle.sr_dup_table.proofs.join_laws.merge_associates.Goals as goal

pub returns : goal.returns
returns c = merge_associates_lem
