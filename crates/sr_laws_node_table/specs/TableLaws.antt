-- What a table of nodes keeps and which alarms it has, after any hearings and prunes in the order of their times.
use Rattle.std.specs.Prelude.{ℕ, ◌≡◌, ◌↔◌, true, false, List, ◌∷◌, ◌++◌, length, Contains, is_some, map, if◌then◌else◌}
use Rattle.std.specs.List.{IsDistinct}
use Rattle.std.specs.Map.{lookup}
use Rattle.circular_buffer.specs.Buffer.{keep_last}
use Rattle.sr_frame.specs.Addresses.{mac_eq}
use Rattle.sr_frame.specs.declared.fields.Mac.{Mac}
use Rattle.sr_frame.specs.declared.ports.Port.{Port}
use Rattle.sr_frame.specs.declared.learn_outcome.LearnOutcome.{LearnOutcome}
use Rattle.sr_frame.specs.declared.learn_outcome.LearnOutcome.TheVariants.{New, Known, Full}
use Rattle.sr_node_table.specs.declared.alarm.Alarm.TheVariants.{RingError, NodeDown}
use Rattle.sr_node_table.specs.Limits.{most_nodes, most_alarms}
use Rattle.sr_node_table.specs.Nodes.{Hearing, answer_to}
use Rattle.sr_node_table.specs.Stating.{has_at, status_at, listed_at}
use Rattle.sr_node_table.specs.Hearings.{status_by, hearings_of, Event, Prunes, time_of, table_after, AreUpTo}
use Rattle.sr_laws_node_table.specs.Kept.{is_live_by, others_live, finds_room, kept_in, kept_of}
use Rattle.sr_laws_node_table.specs.Entered.{has_entry_in, entered, live_in}
use Rattle.sr_laws_node_table.specs.Lateness.{is_late, was_late_at_prune}
use Rattle.sr_laws_node_table.specs.Raised.{raised_by, raised_in}

-- a hearing is answered Full exactly where 1024 other addresses are live
abbrev pub FullWhereOthersAreLive : Type 0
FullWhereOthersAreLive =
    (events : List Event) (h : Hearing) → AreUpTo h.time events
    → (answer_to (table_after events) h ≡ Full) ↔ (length (others_live (kept_in events) h.time h.mac) ≡ most_nodes)

-- a hearing is known within a life; it is learned where it begins one, unless it finds no room
abbrev pub answer_by : List Hearing → Hearing → LearnOutcome
answer_by hs h = if is_live_by hs h.time h.mac then Known else if finds_room hs h then New else Full

abbrev pub AnswersAreOfKept : Type 0
AnswersAreOfKept =
    (events : List Event) (h : Hearing) → AreUpTo h.time events → answer_to (table_after events) h ≡ answer_by (kept_in events) h

-- the hearings of an address that found room are those that are kept
abbrev pub HearingsAreKept : Type 0
HearingsAreKept =
    (events : List Event) (now : ℕ) (mac : Mac) → AreUpTo now events → hearings_of mac events ≡ kept_of mac events

-- exactly the addresses that are live are told of, each with the status of its hearings
abbrev pub StatusIsOfKept : Type 0
StatusIsOfKept =
    (events : List Event) (now : ℕ) (mac : Mac) → AreUpTo now events
    → (has_at (table_after events) mac now ≡ is_live_by (kept_in events) now mac)
    × (status_at (table_after events) mac now ≡ status_by (kept_of mac events) mac now)

-- the live addresses are listed in the order in which their entries were made
abbrev pub ListIsOfKept : Type 0
ListIsOfKept =
    (events : List Event) (now : ℕ) → AreUpTo now events → listed_at (table_after events) now ≡ live_in events now

-- the entries of a table, forgotten ones among them
abbrev pub EntriesAreOfKept : Type 0
EntriesAreOfKept =
    (events : List Event) (now : ℕ) → AreUpTo now events → map (λ e. e.0) (table_after events).entries ≡ entered events

-- no address has two entries
abbrev pub EntriesAreDistinct : Type 0
EntriesAreDistinct = (events : List Event) (now : ℕ) → AreUpTo now events → IsDistinct mac_eq (entered events)

-- an address has an entry exactly where it was live at the last removal, or was heard since
abbrev pub EntryIsOfKept : Type 0
EntryIsOfKept =
    (events : List Event) (now : ℕ) (mac : Mac) → AreUpTo now events
    → is_some (lookup (mac_eq mac) (table_after events).entries) ≡ has_entry_in events mac

-- the alarms are the latest 64 that were raised
abbrev pub AlarmsAreTheLatest : Type 0
AlarmsAreTheLatest =
    (events : List Event) (now : ℕ) → AreUpTo now events → (table_after events).alarms ≡ keep_last most_alarms (raised_in events)

-- each event adds the alarms that it raises
abbrev pub EachEventAddsItsAlarms : Type 0
EachEventAddsItsAlarms =
    (e : Event) (events : List Event) → AreUpTo (time_of e) events
    → (table_after (e ∷ events)).alarms ≡ keep_last most_alarms ((table_after events).alarms ++ raised_by e events)

-- a port is told of by a prune at which it is late, where it was not at the prune before
pub record TellsOfPort (e : Event) (events : List Event) (mac : Mac) (port : Port) (at : ℕ) : Type 0 where
  pub prune : e ≡ Prunes at
  pub late : is_late port (kept_of mac events) at ≡ true
  pub before : was_late_at_prune port mac events ≡ false

abbrev pub RingErrorsAreExact : Type 0
RingErrorsAreExact =
    (e : Event) (events : List Event) (mac : Mac) (port : Port) (at : ℕ) → AreUpTo (time_of e) events
    → Contains (raised_by e events) (RingError mac port at) ↔ TellsOfPort e events mac port at

-- an address is down where it has an entry until this event, and none from then on
pub record Removes (e : Event) (events : List Event) (mac : Mac) (at : ℕ) : Type 0 where
  pub time : time_of e ≡ at
  pub before : has_entry_in events mac ≡ true
  pub after : has_entry_in (e ∷ events) mac ≡ false

abbrev pub NodeDownsAreExact : Type 0
NodeDownsAreExact =
    (e : Event) (events : List Event) (mac : Mac) (at : ℕ) → AreUpTo (time_of e) events
    → Contains (raised_by e events) (NodeDown mac at) ↔ Removes e events mac at
