use Rattle.sr_hex.proofs.LaneLemmas.{pairs_joined}
use Rattle.sr_hex.proofs.vectors.joined.Goals as goal

pub returns-clause-octets : goal.returns-clause-octets
returns-clause-octets c = pairs_joined c.args.values c.fits-values.0 c.fits-values.1
