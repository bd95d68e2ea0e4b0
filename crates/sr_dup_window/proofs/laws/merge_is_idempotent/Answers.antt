use Rattle.sr_dup_window.proofs.LawLemmas.{merge_is_idempotent_lem}
use Rattle.sr_dup_window.proofs.laws.merge_is_idempotent.Goals as goal

pub returns : goal.returns
returns g c = merge_is_idempotent_lem g.row.N
