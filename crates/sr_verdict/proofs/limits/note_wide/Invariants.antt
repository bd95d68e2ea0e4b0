use Rattle.std.proofs.Common.{◌≡◌, ◌++◌, take}
use Rattle.std.specs.List.{filter_map}
use Rattle.sr_verdict.specs.Limits.{skew_on}
use Rattle.sr_verdict.proofs.limits.note_wide.Given as goal

abbrev pub invariant-loop-own : goal.invariant-loop-own
invariant-loop-own l = l.verdicts.items ≡ l.fn.verdicts.items ++ filter_map (skew_on l.most) (take l.own-index l.heard)
