use Rattle.std.proofs.Common.{rules}
use Rattle.sr_prp_trailer.proofs.reading.stripped.Goals as goal

pub returns-clause-found : goal.returns-clause-found
returns-clause-found c = search rules

pub returns-clause-only : goal.returns-clause-only
returns-clause-only c = search rules
