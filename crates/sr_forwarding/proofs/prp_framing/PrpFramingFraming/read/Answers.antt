use Rattle.std.proofs.Common.{rules}
use Rattle.sr_forwarding.proofs.prp_framing.PrpFramingFraming.read.Goals as goal

pub returns-in-None-clause-ok : goal.returns-in-None-clause-ok
returns-in-None-clause-ok c = search rules
