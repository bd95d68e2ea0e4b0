use Rattle.sr_dup_window.proofs.WordLemmas.{bit_all_but_one}
use Rattle.sr_dup_window.proofs.rows.all_but_one.Goals as goal

pub returns : goal.returns
returns c = λ b h. bit_all_but_one c.args.bit b c.requires h
