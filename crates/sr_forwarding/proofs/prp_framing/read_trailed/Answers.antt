use Rattle.std.proofs.Common.{rules}
use Rattle.sr_forwarding.proofs.prp_framing.read_trailed.Goals as goal

pub returns-clause-some : goal.returns-clause-some
returns-clause-some c = search rules
