use Rattle.std.proofs.Common.{rules}
use Rattle.sr_frame.proofs.owned.Frame.octets.Goals as goal

pub returns-clause-whole : goal.returns-clause-whole
returns-clause-whole c = search rules
