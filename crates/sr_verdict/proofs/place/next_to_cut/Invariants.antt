use Rattle.std.proofs.Common.{◌≡◌, None, fold, take}
use Rattle.sr_verdict.specs.Places.{next_with}
use Rattle.sr_verdict.proofs.place.next_to_cut.Given as goal

abbrev pub invariant-loop-own : goal.invariant-loop-own
invariant-loop-own l = l.nearest ≡ fold (next_with l.when l.side) None (take l.own-index l.heard)
