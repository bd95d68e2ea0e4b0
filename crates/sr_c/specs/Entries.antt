-- What a C program is told of a node, of its alarms and of its ports.
use Rattle.std.specs.Prelude.{◌≡◌, ℕ, List, replicate, Option, None, Some}
use Rattle.sr_frame.specs.declared.fields.Mac.{Mac}
use Rattle.sr_frame.specs.declared.ports.Port.{Port}
use Rattle.sr_node.specs.PerPort.{at}
use Rattle.sr_node_table.specs.declared.alarm.Alarm.{Alarm}
use Rattle.sr_node_table.specs.declared.alarm.Alarm.TheVariants as alarm
use Rattle.sr_node_table.specs.declared.status.Status.{Status}
use Rattle.sr_endpoint.specs.declared.endpoint.Endpoint.{Endpoint}
use Rattle.sr_endpoint.specs.Endpoints.{state_by}
use Rattle.sr_c.specs.declared.entries.NodeEntry.{NodeEntry}
use Rattle.sr_c.specs.declared.entries.AlarmEntry.{AlarmEntry}
use Rattle.sr_c.specs.declared.entries.CountersEntry.{CountersEntry}
use Rattle.sr_c.specs.declared.entries.ProxiedEntry.{ProxiedEntry}
use Rattle.sr_c.specs.Codes.{argument, port_number}

-- the octets of an address that may be missing: zeros then
abbrev pub octets_or_zeros : Option Mac → List ℕ
octets_or_zeros None = replicate 6 0
octets_or_zeros (Some mac) = mac.0

-- 1 where there is an address
abbrev pub has_mac : Option Mac → ℕ
has_mac None = 0
has_mac (Some mac) = 1

abbrev pub node_entry : Status → NodeEntry
node_entry s = record {
  mac = s.addr.0;
  redbox = octets_or_zeros s.redbox;
  has_redbox = has_mac s.redbox;
  age_a = s.if1_age;
  age_b = s.if2_age;
  seq_a = s.if1_seq;
  seq_b = s.if2_seq;
}

abbrev pub alarm_entry : Alarm → AlarmEntry
alarm_entry (alarm.RingError mac port at) = record { mac = mac.0; kind = 1; port = port_number port; at = at }
alarm_entry (alarm.NodeDown mac at) = record { mac = mac.0; kind = 2; port = 0; at = at }

abbrev pub proxied_entry : Mac × ℕ → ProxiedEntry
proxied_entry p = record { mac = p.0.0; at = p.1 }

-- what is counted at a port
abbrev pub counters_entry : Endpoint → Port → CountersEntry
counters_entry e port = record {
  received = at e.counters.received port;
  sent = at e.counters.sent port;
  wrong_lan = at (state_by e).core.wrong_lan port;
  unread = at e.counters.unread port;
  untagged = at e.counters.untagged port;
  table_full = at e.counters.table_full port;
  outbox_full = at e.counters.outbox_full port;
  no_memory = at e.counters.no_memory port;
  own = at e.counters.own port;
}

-- what is told of a node is put into an entry, or there is none and the entry stays
abbrev pub TellsStatus : Option Status → ℕ → NodeEntry → NodeEntry → Type 0
TellsStatus None code old new = (code ≡ argument) × (new ≡ old)
TellsStatus (Some status) code old new = (code ≡ 0) × (new ≡ node_entry status)

-- an alarm is put into an entry, or there is none and the entry stays
abbrev pub TellsAlarm : Option Alarm → ℕ → AlarmEntry → AlarmEntry → Type 0
TellsAlarm None code old new = (code ≡ argument) × (new ≡ old)
TellsAlarm (Some alarm) code old new = (code ≡ 0) × (new ≡ alarm_entry alarm)

-- what is counted at the port of a number is put into an entry, or there is no such port and the entry stays
abbrev pub TellsCounters : Option Port → Endpoint → ℕ → CountersEntry → CountersEntry → Type 0
TellsCounters None e code old new = (code ≡ argument) × (new ≡ old)
TellsCounters (Some port) e code old new = (code ≡ 0) × (new ≡ counters_entry e port)

-- an address is put into an entry, or there is none and the entry stays
abbrev pub TellsProxied : Option (Mac × ℕ) → ℕ → ProxiedEntry → ProxiedEntry → Type 0
TellsProxied None code old new = (code ≡ argument) × (new ≡ old)
TellsProxied (Some p) code old new = (code ≡ 0) × (new ≡ proxied_entry p)
