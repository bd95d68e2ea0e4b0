use Rattle.sr_dup_window.specs.LaneLemmas.{either_bit}
use Rattle.sr_dup_window.proofs.rows.united.Goals as goal

pub returns : goal.returns
returns c = either_bit c.args.word c.args.other
