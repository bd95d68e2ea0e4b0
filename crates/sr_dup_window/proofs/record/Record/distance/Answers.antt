use Rattle.std.proofs.Common.{rules}
use Rattle.sr_dup_window.proofs.record.Record.distance.Goals as goal

pub returns-clause-formula : goal.returns-clause-formula
returns-clause-formula g c = search rules

pub returns-clause-within : goal.returns-clause-within
returns-clause-within g c = search rules
