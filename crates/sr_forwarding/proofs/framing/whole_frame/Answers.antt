use Rattle.std.proofs.Common.{rules}
use Rattle.sr_forwarding.proofs.framing.whole_frame.Goals as goal

pub returns-then-octets-most-clause-err : goal.returns-then-octets-most-clause-err
returns-then-octets-most-clause-err c = search rules
