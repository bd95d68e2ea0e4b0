use Rattle.std.proofs.Common.{◌≡◌, ◌++◌, take}
use Rattle.std.specs.List.{filter_map}
use Rattle.sr_verdict.specs.Limits.{fault_beyond}
use Rattle.sr_verdict.proofs.limits.note_beyond.Given as goal

abbrev pub invariant-loop-fault : goal.invariant-loop-fault
invariant-loop-fault l = l.verdicts.items ≡ l.fn.verdicts.items ++ filter_map (fault_beyond l.limit) (take l.fault-index l.faults)
