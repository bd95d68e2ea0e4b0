use Rattle.sr_dup_window.proofs.LawLemmas.{trees_stand_lem}
use Rattle.sr_dup_window.proofs.laws.trees_stand.Goals as goal

pub returns : goal.returns
returns g c = trees_stand_lem g.row.N
