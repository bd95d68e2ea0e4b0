use Rattle.std.proofs.Common.{◌≡◌, fold, take}
use Rattle.sr_verdict.specs.Drops.{losses_with}
use Rattle.sr_verdict.proofs.drops.losses_in.Given as goal

abbrev pub invariant-loop-verdict : goal.invariant-loop-verdict
invariant-loop-verdict l = l.lost ≡ fold (losses_with l.lan) 0 (take l.verdict-index l.verdicts)
