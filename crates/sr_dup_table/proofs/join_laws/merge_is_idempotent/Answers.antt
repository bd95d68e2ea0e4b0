use Rattle.sr_dup_table.proofs.JoinLawLemmas.{merge_is_idempotent_lem}
use Rattle.sr_dup_table.proofs.join_laws.merge_is_idempotent.Goals as goal

pub returns : goal.returns
returns c = merge_is_idempotent_lem
