use Rattle.sr_dup_window.proofs.LawLemmas.{answers_by_the_union_lem}
use Rattle.sr_dup_window.proofs.laws.answers_by_the_union.Goals as goal

pub returns : goal.returns
returns g c = answers_by_the_union_lem g.row.N
