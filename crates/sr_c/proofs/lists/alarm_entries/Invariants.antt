use Rattle.std.proofs.Common.{◌≡◌, take}
use Rattle.std.specs.Prelude.{map}
use Rattle.sr_c.specs.Entries.{alarm_entry}
use Rattle.sr_c.proofs.lists.alarm_entries.Given as goal

-- the entries so far
abbrev pub invariant-loop-alarm : goal.invariant-loop-alarm
invariant-loop-alarm l = l.entries.items ≡ map alarm_entry (take l.alarm-index l.told)
