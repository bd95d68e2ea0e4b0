use Rattle.std.proofs.Common.{rules}
use Rattle.sr_slots.proofs.by_address.Slots.try_clone.Goals as goal

pub returns-clause-entries : goal.returns-clause-entries
returns-clause-entries g c = search rules
