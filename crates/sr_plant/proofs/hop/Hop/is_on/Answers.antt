use Rattle.std.proofs.Common.{rules}
use Rattle.sr_plant.proofs.hop.Hop.is_on.Goals as goal

pub returns-in-None : goal.returns-in-None
returns-in-None c = search rules
