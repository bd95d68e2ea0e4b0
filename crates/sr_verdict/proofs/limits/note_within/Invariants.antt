use Rattle.std.proofs.Common.{◌≡◌, ◌++◌, take}
use Rattle.std.specs.List.{filter_map}
use Rattle.sr_verdict.specs.Limits.{notice_in_place}
use Rattle.sr_verdict.proofs.limits.note_within.Given as goal

abbrev pub invariant-loop-fault : goal.invariant-loop-fault
invariant-loop-fault l = l.verdicts.items ≡ l.fn.verdicts.items ++ filter_map (notice_in_place l.limit) (take l.fault-index l.faults)
