use Rattle.std.proofs.Common.{◌≡◌, fold, take}
use Rattle.sr_verdict.specs.Mending.{ever_with}
use Rattle.sr_verdict.proofs.mending.ever_sided.Given as goal

abbrev pub invariant-loop-own : goal.invariant-loop-own
invariant-loop-own l = l.count ≡ fold ever_with 0 (take l.own-index l.heard)
