use Rattle.sr_hex.proofs.LaneLemmas.{small_of_mask}
use Rattle.sr_hex.proofs.vectors.are_small.Goals as goal

pub returns : goal.returns
returns c = small_of_mask c.args.v c.fits-v.0 c.fits-v.1
