use Rattle.std.proofs.Common.{rules}
use Rattle.sr_slots.proofs.by_address.Slots.update_at.Goals as goal

pub returns-clause-found : goal.returns-clause-found
returns-clause-found g c = search rules

pub returns-clause-none : goal.returns-clause-none
returns-clause-none g c = search rules
