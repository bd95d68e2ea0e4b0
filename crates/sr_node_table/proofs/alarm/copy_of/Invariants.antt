use Rattle.std.proofs.Common.{◌≡◌, ◌≤◌, ◌++◌, length}
use Rattle.sr_node_table.proofs.alarm.copy_of.Given as goal

-- what was copied, and what is left, are the alarms, of which there are no more than fit
abbrev pub invariant-loop-alarm : goal.invariant-loop-alarm
invariant-loop-alarm l = record {
  together : l.own.items ++ l.alarm-iterator ≡ l.alarms.items;
  capacity : l.own.capacity ≡ l.alarms.capacity;
  few : length l.alarms.items ≤ l.alarms.capacity;
}
