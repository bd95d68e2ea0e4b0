use Rattle.std.proofs.Common.{◌≡◌, fold, take}
use Rattle.sr_verdict.specs.Shared.{no_share, share_with}
use Rattle.sr_verdict.proofs.shared.share_by.Given as goal

abbrev pub invariant-loop-own : goal.invariant-loop-own
invariant-loop-own l = l.share ≡ fold (share_with l.mended l.side) no_share (take l.own-index l.heard)
