use Rattle.sr_dup_window.proofs.WordLemmas.{bit_all_but}
use Rattle.sr_dup_window.proofs.rows.all_but.Goals as goal

pub returns : goal.returns
returns c = λ b h. bit_all_but c.args.low c.args.count b c.requires.within h
