use Rattle.std.proofs.Common.{◌≡◌, fold, take}
use Rattle.sr_verdict.specs.Mending.{sided_with}
use Rattle.sr_verdict.proofs.mending.sided_at.Given as goal

abbrev pub invariant-loop-own : goal.invariant-loop-own
invariant-loop-own l = l.count ≡ fold (sided_with l.time) 0 (take l.own-index l.heard)
