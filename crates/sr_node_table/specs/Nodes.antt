-- What a table of nodes has of each, and what a hearing makes of it.
use Rattle.std.specs.Prelude.{ℕ, Bool, max, nat_lt, not, ◌&&◌, List, [], ◌∷◌, ◌++◌, length, filter, Option, None, Some, if◌then◌else◌}
use Rattle.std.specs.List.{list_any, filter_map}
use Rattle.std.specs.Map.{lookup, set_value}
use Rattle.circular_buffer.specs.Buffer.{keep_last}
use Rattle.sr_frame.specs.Addresses.{mac_eq}
use Rattle.sr_frame.specs.declared.fields.Mac.{Mac}
use Rattle.sr_frame.specs.declared.ports.Port.{Port}
use Rattle.sr_frame.specs.declared.ports.Port.TheVariants.{A}
use Rattle.sr_frame.specs.declared.learn_outcome.LearnOutcome.{LearnOutcome}
use Rattle.sr_frame.specs.declared.learn_outcome.LearnOutcome.TheVariants.{New, Known, Full}
use Rattle.sr_aged_slots.specs.Ages as ages
use Rattle.sr_supervision.specs.declared.message.Supervision.{Supervision}
use Rattle.sr_aged_slots.specs.declared.aged.Aged.{Aged}
use Rattle.sr_node_table.specs.declared.node.AtPort.{AtPort}
use Rattle.sr_node_table.specs.declared.node.Node.{Node}
use Rattle.sr_node_table.specs.declared.node.Announced.{Announced}
use Rattle.sr_node_table.specs.declared.node.Told.{Told}
use Rattle.sr_node_table.specs.declared.node.Told.TheVariants.{Numbered, Announces}
use Rattle.sr_node_table.specs.declared.alarm.Alarm.{Alarm}
use Rattle.sr_node_table.specs.declared.alarm.Alarm.TheVariants.{NodeDown}
use Rattle.sr_node_table.specs.Limits.{forget_time, most_nodes, most_alarms}

-- a hearing: of a node, at a port, at a time, and what it tells
pub record Hearing : Type 0 where
  pub mac : Mac
  pub port : Port
  pub told : Told
  pub time : ℕ

abbrev pub hearing_of : Mac → Port → Told → ℕ → Hearing
hearing_of mac port told time = record { mac = mac; port = port; told = told; time = time }

-- the hearing of what a supervision frame says
abbrev pub announcement : Supervision → Port → ℕ → Hearing
announcement s port time = hearing_of s.mac port (Announces (record { life = s.life; redbox = s.redbox })) time

-- the latest time, where another one comes
abbrev pub times_after : Option ℕ → ℕ → Option ℕ
times_after None now = Some now
times_after (Some time) now = Some (max time now)

-- the number of the last numbered frame
abbrev pub number_after : ℕ → Told → ℕ
number_after seq (Numbered new) = new.0
number_after seq (Announces announced) = seq

abbrev pub announced_after : Option Announced → Told → Option Announced
announced_after old (Numbered seq) = old
announced_after old (Announces new) = Some new

-- a port after a hearing there
abbrev pub port_after : AtPort → Told → ℕ → AtPort
port_after port told now = record { time = times_after port.time now; seq = number_after port.seq told }

-- a node after a hearing at a ring port
abbrev pub node_after : Node → Port → Told → ℕ → Node
node_after node A told now = record { a = port_after node.a told now; b = node.b; announced = announced_after node.announced told }
node_after node port told now = record { a = node.a; b = port_after node.b told now; announced = announced_after node.announced told }

-- what was heard at a ring port
abbrev pub at_port : Node → Port → AtPort
at_port node A = node.a
at_port node port = node.b

-- nothing was heard
abbrev pub silent : AtPort
silent = record { time = None; seq = 0 }

abbrev pub unheard : Node
unheard = record { a = silent; b = silent; announced = None }

abbrev pub begun_by : Port → Told → ℕ → Node
begun_by port told now = node_after unheard port told now

-- a node, and when it was last heard
abbrev pub Entry : Type 0
Entry = Aged Node

abbrev pub Entries : Type 0
Entries = List (Mac × Entry)

-- a node that is not forgotten
abbrev pub is_live : ℕ → Entry → Bool
is_live now e = ages.is_recent forget_time now e.time

abbrev pub live_at : ℕ → Entries → Entries
live_at now es = ages.live_at forget_time now es

-- the live nodes but one
abbrev pub live_others : Mac → ℕ → Entries → Entries
live_others mac now es = filter (λ e. is_live now e.1 && not (mac_eq mac e.0)) es

-- the first hearing of a life
abbrev pub entry_begun : Port → Told → ℕ → Entry
entry_begun port told now = record { value = begun_by port told now; time = now }

-- a hearing goes on with a life, or begins a new one after a silence
abbrev pub entry_after : Entry → Port → Told → ℕ → Entry
entry_after e port told now =
    if is_live now e then record { value = node_after e.value port told now; time = max e.time now } else entry_begun port told now

abbrev pub learnt_again : ℕ → Entry → LearnOutcome
learnt_again now e = if is_live now e then Known else New

-- what a full table keeps for a new node
abbrev pub with_room : ℕ → Entries → Entries
with_room now es = ages.with_room forget_time most_nodes now es

-- a node that is forgotten is down
abbrev pub down_of : Mac → Entry → ℕ → Option Alarm
down_of mac e now = if is_live now e then None else Some (NodeDown mac now)

-- what a full table raises of those that it lets go
abbrev pub downs_at : ℕ → Entries → List Alarm
downs_at now es = filter_map (λ e. down_of e.0 e.1 now) es

abbrev pub downs_of : ℕ → Entries → List Alarm
downs_of now es = if nat_lt (length es) most_nodes then [] else downs_at now es

-- what contracts see of a table: the nodes in the order of first hearing, the latest alarms, and what the previous prune found late
pub record Table : Type 0 where
  pub entries : Entries
  pub alarms : List Alarm
  pub late : List (Mac × Port)

-- a table, and the addresses whose place is held
pub record Nodes : Type 0 where
  pub table : Table
  pub held : List Mac

abbrev pub is_held : Nodes → Mac → Bool
is_held t mac = list_any (mac_eq mac) t.held

-- the latest alarms, where some more were raised
abbrev pub raised : List Alarm → List Alarm → List Alarm
raised alarms more = keep_last most_alarms (alarms ++ more)

-- what a hearing is answered: an address of which the table has an entry is kept; for another one there may be no room
abbrev pub answer_of : Option Entry → Entries → ℕ → LearnOutcome
answer_of (Some e) es now = learnt_again now e
answer_of None es now = if nat_lt (length (with_room now es)) most_nodes then New else Full

abbrev pub answer_to : Table → Hearing → LearnOutcome
answer_to t h = answer_of (lookup (mac_eq h.mac) t.entries) t.entries h.time

-- the table after a hearing that is kept: an entry keeps its place; a new one goes last, and where the table was full
-- all forgotten nodes are down
abbrev pub kept_by : Option Entry → Table → Hearing → Table
kept_by (Some e) t h = record t { entries = set_value (mac_eq h.mac) t.entries (entry_after e h.port h.told h.time) }
kept_by None t h =
    record t {
      entries = with_room h.time t.entries ++ (h.mac, entry_begun h.port h.told h.time) ∷ [];
      alarms = raised t.alarms (downs_of h.time t.entries);
    }

abbrev pub after_answer : LearnOutcome → Table → Hearing → Table
after_answer Full t h = t
after_answer answer t h = kept_by (lookup (mac_eq h.mac) t.entries) t h

-- the table after any hearing: one that is answered Full leaves it
abbrev pub after_hearing : Table → Hearing → Table
after_hearing t h = after_answer (answer_to t h) t h

-- no node was heard
abbrev pub empty_table : Table
empty_table = record { entries = []; alarms = []; late = [] }
