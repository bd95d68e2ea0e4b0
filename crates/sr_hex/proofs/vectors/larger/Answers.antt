use Rattle.sr_hex.proofs.LaneLemmas.{lanes_larger}
use Rattle.sr_hex.proofs.vectors.larger.Goals as goal

pub returns : goal.returns
returns c = lanes_larger c.args.a c.args.b c.fits-a.0 c.fits-b.0
