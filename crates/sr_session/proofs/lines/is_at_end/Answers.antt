use Rattle.std.proofs.Common.{rules}
use Rattle.sr_session.proofs.lines.is_at_end.Goals as goal

pub returns-in-Ok-clause-ended : goal.returns-in-Ok-clause-ended
returns-in-Ok-clause-ended g c = search rules
