use Rattle.sr_dup_window.proofs.WordLemmas.{bit_kept}
use Rattle.sr_dup_window.proofs.rows.kept.Goals as goal

pub returns : goal.returns
returns c = bit_kept c.args.word c.args.mask
