use Rattle.std.proofs.Common.{rules}
use Rattle.sr_slots.proofs.by_address.Slots.find.Goals as goal

pub returns-in_err-index : goal.returns-in_err-index
returns-in_err-index g c = search rules

pub returns : goal.returns
returns g c = search rules
