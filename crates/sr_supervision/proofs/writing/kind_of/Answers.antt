use Rattle.std.proofs.Common.{rules}
use Rattle.sr_supervision.proofs.writing.kind_of.Goals as goal

pub returns-in-Hsr : goal.returns-in-Hsr
returns-in-Hsr c = search rules
