use Rattle.std.proofs.Common.{◌≡◌, ◌++◌, take}
use Rattle.sr_verdict.specs.Verdicts.{verdicts_on}
use Rattle.sr_verdict.proofs.judging.note_each.Given as goal

abbrev pub invariant-loop-own : goal.invariant-loop-own
invariant-loop-own l = l.verdicts.items ≡ l.fn.verdicts.items ++ verdicts_on l.kind (take l.own-index l.heard)
