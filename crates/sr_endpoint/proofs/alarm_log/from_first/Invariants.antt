use Rattle.std.proofs.Common.{◌≡◌, length}
use Rattle.sr_endpoint.specs.AlarmLogs.{from_first}
use Rattle.sr_endpoint.proofs.alarm_log.from_first.Given as goal

-- there are as many among those that are left
abbrev pub invariant-loop-alarm : goal.invariant-loop-alarm
invariant-loop-alarm l = from_first l.first l.fn.old ≡ from_first l.first l.rest

abbrev pub decreases-loop-alarm : goal.decreases-loop-alarm
decreases-loop-alarm l = length l.rest
