use Rattle.std.proofs.Common.{◌≡◌, ◌++◌, take}
use Rattle.std.specs.List.{flat_map}
use Rattle.sr_script.specs.StatusTexts.{alarm_line}
use Rattle.sr_script.proofs.status_lines.append_alarms.Given as goal

abbrev pub invariant-loop-alarm : goal.invariant-loop-alarm
invariant-loop-alarm l = l.text.items ≡ l.fn.text.items ++ flat_map alarm_line (take l.alarm-index l.alarms)
