use Rattle.std.proofs.Common.{rules}
use Rattle.sr_slots.proofs.places.change_in.Goals as goal

pub returns-clause-some : goal.returns-clause-some
returns-clause-some g c = search rules
