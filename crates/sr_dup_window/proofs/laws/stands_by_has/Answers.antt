use Rattle.sr_dup_window.proofs.LawLemmas.{stands_by_has_lem}
use Rattle.sr_dup_window.proofs.laws.stands_by_has.Goals as goal

pub returns : goal.returns
returns g c = stands_by_has_lem g.row.N
