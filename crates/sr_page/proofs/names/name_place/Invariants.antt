use Rattle.sr_page.specs.Named.{AreOthers}
use Rattle.sr_page.proofs.names.name_place.Given as goal

-- the names that were passed are of other addresses
abbrev pub invariant-loop-at : goal.invariant-loop-at
invariant-loop-at l = AreOthers l.names l.mac l.at
