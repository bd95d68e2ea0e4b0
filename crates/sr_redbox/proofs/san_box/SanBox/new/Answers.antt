use Rattle.std.proofs.Common.{rules}
use Rattle.sr_redbox.proofs.san_box.SanBox.new.Goals as goal

pub returns : goal.returns
returns c = search rules
