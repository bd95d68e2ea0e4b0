use Rattle.std.proofs.Common.{◌≡◌, ◌++◌}
use Rattle.sr_audit.specs.Listings.{waiting, KeepsPlaces, StaysAs}
use Rattle.sr_audit.proofs.ListingLemmas.{AreLeft, AreSettled}
use Rattle.sr_audit.proofs.pending.Pending.end_stretch.Given as goal

abbrev pub invariant-loop-steps : goal.invariant-loop-steps
invariant-loop-steps l = StaysAs l.fn.self l.self × (l.list.items ≡ l.fn.list.items ++ waiting l.spans l.fn.self l.src l.greatest.0 l.steps)
    × AreLeft l.greatest.0 l.steps l.fn.self l.self
    × (KeepsPlaces l.fn.self → AreSettled l.greatest.0 l.steps l.self)
