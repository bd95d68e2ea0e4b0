use Rattle.sr_clocks.proofs.Ordered.{rests_right}
use Rattle.sr_clocks.proofs.laws.rests_put_times_right.Goals as goal

pub returns : goal.returns
returns c = rests_right
