use Rattle.std.proofs.Common.{rules}
use Rattle.sr_script.proofs.reading.tick_of.Goals as goal

pub returns-in_err-strip_prefix-clause-only : goal.returns-in_err-strip_prefix-clause-only
returns-in_err-strip_prefix-clause-only c = search rules

pub returns-clause-found : goal.returns-clause-found
returns-clause-found c = search rules
