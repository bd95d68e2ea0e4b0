use Rattle.sr_dup_window.proofs.LawLemmas.{windows_are_whole_lem}
use Rattle.sr_dup_window.proofs.laws.windows_are_whole.Goals as goal

pub returns : goal.returns
returns g c = windows_are_whole_lem g.row.N
