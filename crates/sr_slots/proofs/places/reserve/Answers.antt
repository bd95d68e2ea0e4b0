use Rattle.std.proofs.Common.{rules}
use Rattle.sr_slots.proofs.places.reserve.Goals as goal

pub returns-in_err-reserve : goal.returns-in_err-reserve
returns-in_err-reserve g c = search rules

pub returns : goal.returns
returns g c = search rules
