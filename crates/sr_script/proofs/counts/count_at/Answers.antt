use Rattle.std.proofs.Common.{rules}
use Rattle.sr_script.proofs.counts.count_at.Goals as goal

pub returns-in-H : goal.returns-in-H
returns-in-H c = search rules

pub returns-in-A : goal.returns-in-A
returns-in-A c = search rules

pub returns-in-B : goal.returns-in-B
returns-in-B c = search rules

pub returns-in-C : goal.returns-in-C
returns-in-C c = search rules
