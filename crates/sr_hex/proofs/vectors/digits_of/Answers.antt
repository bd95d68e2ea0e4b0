use Rattle.sr_hex.proofs.LaneLemmas.{small_places, digits_looked_up}
use Rattle.sr_hex.proofs.vectors.digits_of.Goals as goal

pub swizzle : goal.swizzle
swizzle c = small_places c.args.numbers c.fits-numbers.0 c.requires

pub returns : goal.returns
returns c = digits_looked_up c.args.numbers c.fits-numbers.0 c.requires
