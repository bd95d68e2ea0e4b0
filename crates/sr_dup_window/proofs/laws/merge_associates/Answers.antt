use Rattle.sr_dup_window.proofs.LawLemmas.{merge_associates_lem}
use Rattle.sr_dup_window.proofs.laws.merge_associates.Goals as goal

pub returns : goal.returns
returns g c = merge_associates_lem g.row.N
