use Rattle.sr_hex.proofs.LaneLemmas.{small_front_of_mask}
use Rattle.sr_hex.proofs.vectors.small_front.Goals as goal

pub returns : goal.returns
returns c = small_front_of_mask c.args.v _ c.fits-v.0 c.first_set.ensures
