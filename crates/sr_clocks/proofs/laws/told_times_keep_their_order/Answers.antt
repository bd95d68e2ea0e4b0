use Rattle.sr_clocks.proofs.Ordered.{told_order}
use Rattle.sr_clocks.proofs.laws.told_times_keep_their_order.Goals as goal

pub returns : goal.returns
returns c = told_order
