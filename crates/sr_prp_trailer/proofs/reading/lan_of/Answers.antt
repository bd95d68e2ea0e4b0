use Rattle.std.proofs.Common.{rules}
use Rattle.sr_prp_trailer.proofs.reading.lan_of.Goals as goal

pub returns-in_default-clause-some : goal.returns-in_default-clause-some
returns-in_default-clause-some c = search rules

pub returns-in-10-clause-some : goal.returns-in-10-clause-some
returns-in-10-clause-some c = search rules
