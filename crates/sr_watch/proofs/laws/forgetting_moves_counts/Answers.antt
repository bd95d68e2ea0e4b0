use Rattle.sr_watch.proofs.ForgetLemmas.{moves_counts}
use Rattle.sr_watch.proofs.laws.forgetting_moves_counts.Goals as goal

pub returns : goal.returns
returns c = moves_counts
