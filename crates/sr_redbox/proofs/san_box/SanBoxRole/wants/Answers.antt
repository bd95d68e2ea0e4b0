use Rattle.std.proofs.Common.{rules}
use Rattle.sr_redbox.proofs.san_box.SanBoxRole.wants.Goals as goal

pub returns-in-A : goal.returns-in-A
returns-in-A c = search rules

pub returns-in-C : goal.returns-in-C
returns-in-C c = search rules
