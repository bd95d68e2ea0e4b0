-- Which ports are late, and what a prune raises, keeps and removes.
use Rattle.std.specs.Prelude.{ℕ, ◌-◌, Bool, true, false, nat_lt, List, Option, None, Some, if◌then◌else◌}
use Rattle.std.specs.List.{filter_map}
use Rattle.std.specs.Map.{lookup}
use Rattle.sr_frame.specs.Addresses.{mac_eq}
use Rattle.sr_frame.specs.declared.fields.Mac.{Mac}
use Rattle.sr_frame.specs.declared.ports.Port.{Port}
use Rattle.sr_frame.specs.declared.ports.Port.TheVariants.{H, A, B, C}
use Rattle.sr_node_table.specs.declared.alarm.Alarm.{Alarm}
use Rattle.sr_node_table.specs.declared.alarm.Alarm.TheVariants.{RingError}
use Rattle.sr_node_table.specs.Limits.{heard_lately, most_behind}
use Rattle.sr_node_table.specs.Nodes.{Entry, Entries, Table, is_live, live_at, down_of, raised}

-- a port that was never heard is behind, and one that is more than 3000 ms behind the other
abbrev pub is_behind : Option ℕ → Option ℕ → Bool
is_behind None other = true
is_behind (Some time) None = false
is_behind (Some time) (Some other) = nat_lt most_behind (other - time)

-- the port of a node that is late: the node was heard less than 4500 ms ago, and the port is behind
abbrev pub late_port : ℕ → Entry → Option Port
late_port now e =
    if nat_lt (now - e.time) heard_lately
    then (if is_behind e.value.a.time e.value.b.time then Some A else if is_behind e.value.b.time e.value.a.time then Some B else None)
    else None

-- whether two ports are one
abbrev pub is_port : Port → Port → Bool
is_port H H = true
is_port A A = true
is_port B B = true
is_port C C = true
is_port p q = false

-- whether this port was found late
abbrev pub was_late : Option Port → Port → Bool
was_late None port = false
was_late (Some late) port = is_port late port

-- the alarm of a port that is late, and was not
abbrev pub ring_error : Option Port → Option Port → Mac → ℕ → Option Alarm
ring_error before None mac now = None
ring_error before (Some port) mac now = if was_late before port then None else Some (RingError mac port now)

-- the alarm that a prune raises of one node: it is down, or a port of it is late
abbrev pub alarm_of : Option Port → Option Port → Mac → Entry → ℕ → Option Alarm
alarm_of before late mac e now = if is_live now e then ring_error before late mac now else down_of mac e now

-- what a prune raises, entry by entry, where these ports were late at the previous one
abbrev pub alarms_at : List (Mac × Port) → ℕ → Entries → List Alarm
alarms_at late now es = filter_map (λ e. alarm_of (lookup (mac_eq e.0) late) (late_port now e.1) e.0 e.1 now) es

-- what a prune finds late of an address
abbrev pub found_late : Mac → Option Port → Option (Mac × Port)
found_late mac None = None
found_late mac (Some port) = Some (mac, port)

abbrev pub late_at : ℕ → Entries → List (Mac × Port)
late_at now es = filter_map (λ e. found_late e.0 (late_port now e.1)) es

-- the table after a prune
abbrev pub after_prune : Table → ℕ → Table
after_prune t now =
    record {
      entries = live_at now t.entries;
      alarms = raised t.alarms (alarms_at t.late now t.entries);
      late = late_at now t.entries;
    }
