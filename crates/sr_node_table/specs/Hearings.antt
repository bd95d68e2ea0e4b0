-- What the hearings of one address say of it, and what a table is after hearings and prunes. All lists have the latest first.
use Rattle.std.specs.Prelude.{ℕ, ◌≡◌, ◌≤◌, Bool, true, false, not, ◌&&◌, List, [], ◌∷◌, filter, Option, None, Some, if◌then◌else◌}
use Rattle.std.specs.List.{list_any}
use Rattle.sr_frame.specs.Addresses.{mac_eq}
use Rattle.sr_frame.specs.declared.fields.Mac.{Mac}
use Rattle.sr_frame.specs.declared.ports.Port.{Port}
use Rattle.sr_frame.specs.declared.ports.Port.TheVariants.{A}
use Rattle.sr_frame.specs.declared.learn_outcome.LearnOutcome.{LearnOutcome}
use Rattle.sr_frame.specs.declared.learn_outcome.LearnOutcome.TheVariants.{Full}
use Rattle.sr_aged_slots.specs.Ages as ages
use Rattle.sr_node_table.specs.declared.node.Node.{Node}
use Rattle.sr_node_table.specs.declared.node.Announced.{Announced}
use Rattle.sr_node_table.specs.declared.status.Status.{Status}
use Rattle.sr_node_table.specs.Limits.{forget_time}
use Rattle.sr_node_table.specs.Nodes.{Hearing, Table, empty_table, times_after, number_after, announced_after, answer_to, after_hearing}
use Rattle.sr_node_table.specs.Watching.{after_prune}
use Rattle.sr_node_table.specs.Stating.{status_of, status_at, has_at}

-- some hearing is less than 60000 ms old
abbrev pub is_heard : List Hearing → ℕ → Bool
is_heard hs now = list_any (λ h. ages.is_recent forget_time now h.time) hs

-- the hearings since the last silence: the first one, and one after a silence, begins a life
abbrev pub life_of : List Hearing → List Hearing
life_of [] = []
life_of (h ∷ hs) = if is_heard hs h.time then h ∷ life_of hs else h ∷ []

-- of the two ring ports it was at A, or else at B
abbrev pub is_a : Port → Bool
is_a A = true
is_a _ = false

abbrev pub at_a : List Hearing → List Hearing
at_a hs = filter (λ h. is_a h.port) hs

abbrev pub at_b : List Hearing → List Hearing
at_b hs = filter (λ h. not (is_a h.port)) hs

-- the latest time
abbrev pub latest_of : List Hearing → Option ℕ
latest_of [] = None
latest_of (h ∷ hs) = times_after (latest_of hs) h.time

-- the number of the last numbered frame, 0 where there is none
abbrev pub number_of : List Hearing → ℕ
number_of [] = 0
number_of (h ∷ hs) = number_after (number_of hs) h.told

-- the last announcement
abbrev pub announced_in : List Hearing → Option Announced
announced_in [] = None
announced_in (h ∷ hs) = announced_after (announced_in hs) h.told

-- what a life says: per port its latest time and last number, and the last announcement
abbrev pub node_in : List Hearing → Node
node_in life =
    record {
      a = record { time = latest_of (at_a life); seq = number_of (at_a life) };
      b = record { time = latest_of (at_b life); seq = number_of (at_b life) };
      announced = announced_in life;
    }

-- the status of a node with these hearings
abbrev pub status_by : List Hearing → Mac → ℕ → Option Status
status_by hs mac now = if is_heard hs now then Some (status_of mac (node_in (life_of hs)) now) else None

-- what happens to a table
pub data Event : Type 0 where
  Hears : Hearing → Event
  Prunes : ℕ → Event

abbrev pub time_of : Event → ℕ
time_of (Hears h) = h.time
time_of (Prunes now) = now

abbrev pub table_after : List Event → Table
table_after [] = empty_table
table_after (Hears h ∷ events) = after_hearing (table_after events) h
table_after (Prunes now ∷ events) = after_prune (table_after events) now

abbrev pub is_kept : LearnOutcome → Bool
is_kept Full = false
is_kept _ = true

-- the hearings of an address that found room
abbrev pub hearings_of : Mac → List Event → List Hearing
hearings_of mac [] = []
hearings_of mac (Hears h ∷ events) =
    if mac_eq h.mac mac && is_kept (answer_to (table_after events) h) then h ∷ hearings_of mac events else hearings_of mac events
hearings_of mac (Prunes now ∷ events) = hearings_of mac events

-- events in the order of their times, none after this one
abbrev pub AreUpTo : ℕ → List Event → Type 0
AreUpTo now [] = Unit {0}
AreUpTo now (e ∷ events) = (time_of e ≤ now) × AreUpTo (time_of e) events

-- after any hearings and prunes in the order of their times, the status of an address is that of its hearings
abbrev pub StatusIsOfHearings : Type 0
StatusIsOfHearings =
    (events : List Event) (now : ℕ) (mac : Mac) → AreUpTo now events
    → status_at (table_after events) mac now ≡ status_by (hearings_of mac events) mac now

-- an address is there exactly where it was heard less than 60000 ms ago
abbrev pub HasIsOfHearings : Type 0
HasIsOfHearings =
    (events : List Event) (now : ℕ) (mac : Mac) → AreUpTo now events
    → has_at (table_after events) mac now ≡ is_heard (hearings_of mac events) now
