use Rattle.std.proofs.Common.{rules}
use Rattle.sr_slots.proofs.entries.IterIterator.next.Goals as goal

pub returns-in-Some-get-clause-steps : goal.returns-in-Some-get-clause-steps
returns-in-Some-get-clause-steps g c = search rules

pub returns-in-Some-get-clause-goes : goal.returns-in-Some-get-clause-goes
returns-in-Some-get-clause-goes g c = search rules

pub loop-key-preserved : goal.loop-key-preserved
loop-key-preserved g c = search rules
