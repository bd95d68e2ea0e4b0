use Rattle.std.proofs.Common.{rules}
use Rattle.sr_forwarding.proofs.hsr_framing.HsrFramingFraming.write.Goals as goal

pub returns-in-Hsr-clause-written : goal.returns-in-Hsr-clause-written
returns-in-Hsr-clause-written c = search rules

pub returns-in-Hsr-clause-err : goal.returns-in-Hsr-clause-err
returns-in-Hsr-clause-err c = search rules

pub returns-in-Prp-clause-written : goal.returns-in-Prp-clause-written
returns-in-Prp-clause-written c = search rules
