use Rattle.sr_dup_table.proofs.JoinLawLemmas.{merge_stands_lem}
use Rattle.sr_dup_table.proofs.join_laws.merge_stands.Goals as goal

pub returns : goal.returns
returns c = merge_stands_lem
