use Rattle.sr_dup_window.proofs.LawLemmas.{each_stands_lem}
use Rattle.sr_dup_window.proofs.laws.each_stands.Goals as goal

pub returns : goal.returns
returns g c = each_stands_lem g.row.N
