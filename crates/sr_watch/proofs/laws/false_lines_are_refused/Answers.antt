use Rattle.sr_watch.proofs.WorkedLemmas.{refused}
use Rattle.sr_watch.proofs.laws.false_lines_are_refused.Goals as goal

pub returns : goal.returns
returns c = refused
