use Rattle.std.proofs.Common.{rules}
use Rattle.sr_plant.proofs.building.is_fit.Goals as goal

pub returns-then-waiting-eq0-3 : goal.returns-then-waiting-eq0-3
returns-then-waiting-eq0-3 g c = search rules
