use Rattle.std.proofs.Common.{◌/◌, ◌^◌}
use Rattle.sr_hex.proofs.LaneLemmas.{lanes_with}
use Rattle.sr_hex.proofs.vectors.upper.Goals as goal

pub returns : goal.returns
returns c = lanes_with (λ a b. a / 2 ^ b) c.args.octets 4 c.fits-octets.0
