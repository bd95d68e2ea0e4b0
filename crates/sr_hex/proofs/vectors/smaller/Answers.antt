use Rattle.sr_hex.proofs.LaneLemmas.{lanes_smaller}
use Rattle.sr_hex.proofs.vectors.smaller.Goals as goal

pub returns : goal.returns
returns c = lanes_smaller c.args.a c.args.b c.fits-a.0 c.fits-b.0
