use Rattle.std.proofs.Common.{◌≡◌, None, fold, take}
use Rattle.sr_verdict.specs.Shared.{cut_with}
use Rattle.sr_verdict.proofs.shared.cut_in.Given as goal

abbrev pub invariant-loop-own : goal.invariant-loop-own
invariant-loop-own l = l.cut ≡ fold (cut_with l.when) None (take l.own-index l.heard)
