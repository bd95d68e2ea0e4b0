use Rattle.std.proofs.Common.{rules}
use Rattle.sr_slots.proofs.by_address.Slots.get.Goals as goal

pub returns : goal.returns
returns g c = search rules
