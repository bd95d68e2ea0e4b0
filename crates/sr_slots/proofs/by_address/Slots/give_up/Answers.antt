use Rattle.std.proofs.Common.{rules}
use Rattle.sr_slots.proofs.by_address.Slots.give_up.Goals as goal

pub returns-then-give_up-clause-held : goal.returns-then-give_up-clause-held
returns-then-give_up-clause-held g c = search rules

pub returns-else-give_up-clause-held : goal.returns-else-give_up-clause-held
returns-else-give_up-clause-held g c = search rules
