use Rattle.sr_hold.proofs.OrderLemmas.{in_one_order}
use Rattle.sr_hold.proofs.laws.what_is_held_is_released.Goals as goal

pub returns : goal.returns
returns g c = in_one_order
