use Rattle.std.proofs.Common.{◌≡◌, ◌<◌}
use Rattle.sr_audit.specs.Limits.{kept_numbers}
use Rattle.sr_audit.specs.Listings.{KeepsPlaces, StaysAs}
use Rattle.sr_audit.proofs.ListingLemmas.{ArePassed}
use Rattle.sr_audit.proofs.pending.Pending.go_back.Given as goal

abbrev pub invariant-loop-step : goal.invariant-loop-step
invariant-loop-step l = StaysAs l.fn.self l.self × (l.self.reach ≡ l.fn.self.reach) × (KeepsPlaces l.fn.self → l.steps < kept_numbers →
    KeepsPlaces l.self × ArePassed l.x.seq.0 l.x.time l.fn.self.reach l.steps l.step l.fn.self l.self)
