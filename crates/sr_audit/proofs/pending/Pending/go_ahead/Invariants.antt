use Rattle.std.proofs.Common.{◌≡◌, ◌<◌, ◌++◌}
use Rattle.sr_audit.specs.Limits.{kept_numbers}
use Rattle.sr_audit.specs.Listings.{left_behind, KeepsPlaces, StaysAs}
use Rattle.sr_audit.proofs.ListingLemmas.{AreAhead, AreOver}
use Rattle.sr_audit.proofs.pending.Pending.go_ahead.Given as goal

abbrev pub invariant-loop-left : goal.invariant-loop-left
invariant-loop-left l = StaysAs l.fn.self l.self × (l.self.reach ≡ l.fn.self.reach) × (l.steps < kept_numbers →
    (l.list.items ≡ l.fn.list.items ++ left_behind l.spans l.fn.self l.x.src l.x.arrival.seq.0 l.steps l.left)
    × AreAhead l.x.arrival.seq.0 l.steps l.left l.fn.self l.self)
    × (KeepsPlaces l.fn.self → l.steps < kept_numbers →
    AreOver l.x.arrival.seq.0 l.x.arrival.time l.steps l.left l.fn.self l.self)
