use Rattle.std.proofs.Common.{rules}
use Rattle.sr_dup_table.proofs.entry.join.Goals as goal

pub returns-clause-answer : goal.returns-clause-answer
returns-clause-answer g c = search rules

pub returns-clause-joined : goal.returns-clause-joined
returns-clause-joined g c = search rules

pub returns-clause-later : goal.returns-clause-later
returns-clause-later g c = search rules
