use Rattle.std.proofs.Common.{◌≡◌}
use Rattle.sr_node_table.specs.Equality.{same_alarms}
use Rattle.sr_node_table.proofs.equality.same_alarms.Given as goal

-- the alarms that are left say whether all are the same
abbrev pub invariant-loop-alarm : goal.invariant-loop-alarm
invariant-loop-alarm l = same_alarms l.alarm-iterator l.others ≡ same_alarms l.one.items l.other.items
