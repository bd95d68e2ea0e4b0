use Rattle.sr_dup_window.proofs.LawLemmas.{equal_where_one_serves_lem}
use Rattle.sr_dup_window.proofs.laws.equal_where_one_serves.Goals as goal

pub returns : goal.returns
returns g c = equal_where_one_serves_lem g.row.N
