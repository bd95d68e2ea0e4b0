use Rattle.std.proofs.Common.{rules}
use Rattle.sr_lines.proofs.Frames.{frames_more}
use Rattle.sr_lines.proofs.cable.CableFeed.next.Goals as goal

pub returns-in-Some-clause-handed : goal.returns-in-Some-clause-handed
returns-in-Some-clause-handed g c = λ _. frames_more _ _ c.in-Some.frame _ (search rules) (search rules)
