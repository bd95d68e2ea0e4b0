use Rattle.std.proofs.Common.{rules}
use Rattle.sr_forwarding.proofs.framing.Framing.decode.Goals as goal

pub returns-clause-ok : goal.returns-clause-ok
returns-clause-ok g c = search rules
