use Rattle.sr_dup_window.proofs.LawLemmas.{trees_agree_lem}
use Rattle.sr_dup_window.proofs.laws.trees_agree.Goals as goal

pub returns : goal.returns
returns g c = trees_agree_lem g.row.N
