-- How alarms are numbered: in the order in which they are raised, from 0.
use Rattle.std.specs.Prelude.{◌≡◌, ◌⊎◌, ℕ, ◌+◌, ◌-◌, min, List, [], ◌∷◌, length, drop, if◌then◌else◌}
use Rattle.sr_node.specs.Limits.{greatest_count}
use Rattle.sr_node_table.specs.contracts.alarm.AlarmPartialEq.TheImpl as alarm
use Rattle.sr_node_table.specs.declared.alarm.Alarm.{Alarm}

-- what is known of the alarms of a node: how many were counted, and which were kept when they were last looked at
pub record Log : Type 0 where
  pub raised : ℕ
  pub kept : List Alarm

-- no alarm was counted yet
abbrev pub no_alarms : Log
no_alarms = record { raised = 0; kept = [] }

-- how many alarms there are from this one on
abbrev pub from_first : Alarm → List Alarm → ℕ
from_first a [] = 0
from_first a (b ∷ old) = if (alarm.ghosts).eq b a then length (b ∷ old) else from_first a old

-- how many of the alarms that were kept before are still kept: those from the first one on that is kept now
abbrev pub still_kept : List Alarm → List Alarm → ℕ
still_kept old [] = 0
still_kept old (a ∷ new) = from_first a old

-- the log after a look at the alarms that are kept: those that were not kept before are counted
abbrev pub after_look : Log → List Alarm → Log
after_look log alarms = record {
  raised = min (log.raised + (length alarms - still_kept log.kept alarms)) greatest_count;
  kept = alarms;
}

-- the alarms were looked at, or that was left for want of memory
abbrev pub Looks : List Alarm → Log → Log → Type 0
Looks alarms log new = (new ≡ after_look log alarms) ⊎ (new ≡ log)

-- the number of the first alarm that is kept
abbrev pub first_kept_number : Log → ℕ
first_kept_number log = log.raised - length log.kept

-- the alarms that are kept from this number on, and how many from there on are not kept any more
abbrev pub kept_from : Log → ℕ → List Alarm
kept_from log number = drop (min (number - first_kept_number log) (length log.kept)) log.kept

abbrev pub missed_from : Log → ℕ → ℕ
missed_from log number = first_kept_number log - number
