use Rattle.sr_dup_window.proofs.LawLemmas.{windows_tell_lem}
use Rattle.sr_dup_window.proofs.laws.windows_tell.Goals as goal

pub returns : goal.returns
returns g c = windows_tell_lem g.row.N
