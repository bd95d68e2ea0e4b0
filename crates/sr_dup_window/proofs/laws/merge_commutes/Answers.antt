use Rattle.sr_dup_window.proofs.LawLemmas.{merge_commutes_lem}
use Rattle.sr_dup_window.proofs.laws.merge_commutes.Goals as goal

pub returns : goal.returns
returns g c = merge_commutes_lem g.row.N
