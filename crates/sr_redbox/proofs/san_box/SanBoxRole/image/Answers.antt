use Rattle.std.proofs.Common.{rules}
use Rattle.sr_redbox.proofs.san_box.SanBoxRole.image.Goals as goal

pub returns : goal.returns
returns c = search rules
