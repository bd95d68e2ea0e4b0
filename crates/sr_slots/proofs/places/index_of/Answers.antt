use Rattle.std.proofs.Common.{sym, rules}
use Rattle.sr_slots.proofs.places.index_of.Goals as goal

pub returns-clause-found : goal.returns-clause-found
returns-clause-found g c = let at = c.stands_at.ensures.at c.if-stands_at.true in sym at.there

pub returns-clause-at : goal.returns-clause-at
returns-clause-at g c = search rules
