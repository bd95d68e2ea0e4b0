use Rattle.std.proofs.Common.{rules}
use Rattle.sr_forwarding.proofs.prp_framing.path_of.Goals as goal

pub returns-in-B : goal.returns-in-B
returns-in-B c = search rules
