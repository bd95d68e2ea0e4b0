use Rattle.std.proofs.Common.{◌≡◌, None, fold, take}
use Rattle.sr_verdict.specs.Mending.{fuller_with}
use Rattle.sr_verdict.proofs.mending.fullest.Given as goal

abbrev pub invariant-loop-own : goal.invariant-loop-own
invariant-loop-own l = l.best ≡ fold (fuller_with l.heard) None (take l.own-index l.heard)
