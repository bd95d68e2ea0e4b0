-- What a table of duplicate records shows: its sources in order, and the sources whose place is held.
use Rattle.std.specs.Prelude.{
  ℕ,
  ◌≤◌,
  Bool,
  not,
  ◌&&◌,
  ◌||◌,
  is_some,
  nat_eq,
  nat_lt,
  max,
  List,
  [],
  ◌∷◌,
  ◌++◌,
  length,
  filter,
  Option,
  None,
  Some,
  if◌then◌else◌,
}
use Rattle.std.specs.Ordering.{on, eq_of_both}
use Rattle.std.specs.Cmp.Lexicographic.{pointwise}
use Rattle.std.specs.List.{list_any, IsDistinct}
use Rattle.std.specs.Map.{lookup, set_value, keys_of}
use Rattle.sr_frame.specs.declared.fields.Mac.{Mac}
use Rattle.sr_dup_table.specs.declared.fault.DupFault.{DupFault}
use Rattle.sr_dup_table.specs.declared.fault.DupFault.TheVariants.{TableFull, NoMemory}
use Rattle.sr_frame.specs.Addresses.{mac_eq}
use Rattle.sr_aged_slots.specs.Ages as ages
use Rattle.sr_dup_window.specs.declared.lane_sets.Lanes.{Lanes}
use Rattle.sr_dup_window.specs.Windows.{Window, window_begun, window_noted, fresh_lanes, same_window}
use Rattle.sr_dup_table.specs.Limits.{most_sources, forget_time}

-- what was noted of one source in this epoch, and when it was last heard
pub record Remembered : Type 0 where
  pub seen : Window
  pub time : ℕ

-- the sources in the order of their first hearing
abbrev pub Sources : Type 0
Sources = List (Mac × Remembered)

-- whether two sources show the same
abbrev pub same_remembered : Remembered → Remembered → Bool
same_remembered = eq_of_both (on (λ h. h.seen) same_window) (on (λ h. h.time) nat_eq)

-- whether two lists of sources are one: the order counts
abbrev pub same_sources : Sources → Sources → Bool
same_sources = pointwise (eq_of_both (on (λ e. e.0.0) (pointwise nat_eq)) (on (λ e. e.1) same_remembered))

-- a time less than 400 ms ago; an earlier moment counts as that time
abbrev pub is_recent : ℕ → ℕ → Bool
is_recent = ages.is_recent forget_time

-- a source that is not forgotten
abbrev pub is_live : ℕ → Remembered → Bool
is_live now h = is_recent now h.time

-- the first arrival of an epoch
abbrev pub begun_at : ℕ → ℕ → Lanes → ℕ → Remembered
begun_at w seq lanes now = record { seen = window_begun w seq lanes; time = now }

-- the record after an arrival: noted within the epoch, begun anew once forgotten
abbrev pub heard_next : ℕ → Remembered → ℕ → Lanes → ℕ → Remembered
heard_next w h seq lanes now =
    if is_live now h
    then record { seen = window_noted w h.seen seq lanes; time = max h.time now }
    else begun_at w seq lanes now

-- the asked lanes on which the number is new in this epoch
abbrev pub fresh_at : ℕ → Remembered → ℕ → Lanes → ℕ → Lanes
fresh_at w h seq lanes now = if is_live now h then fresh_lanes w h.seen seq lanes else lanes

-- the sources that are not forgotten
abbrev pub live_at : ℕ → Sources → Sources
live_at now s = ages.live_by (λ h. h.time) forget_time now s

-- the live sources but one
abbrev pub live_others : Mac → ℕ → Sources → Sources
live_others src now s = filter (λ e. is_live now e.1 && not (mac_eq src e.0)) s

-- what the sources of every table are: no two are one, and they are at most 1024
pub record IsTable (s : Sources) : Type 0 where
  pub unique : IsDistinct mac_eq (keys_of s)
  pub few : length s ≤ most_sources

-- a full table lets its forgotten sources go
abbrev pub with_room : ℕ → Sources → Sources
with_room now s = ages.room_by (λ h. h.time) forget_time most_sources now s

-- what an arrival answers: the lanes on which it is new, or nothing where the table is full
abbrev pub answer_of : ℕ → Option Remembered → Sources → ℕ → Lanes → ℕ → Option Lanes
answer_of w None s seq lanes now = if nat_lt (length (with_room now s)) most_sources then Some lanes else None
answer_of w (Some h) s seq lanes now = Some (fresh_at w h seq lanes now)

-- the sources after an arrival that is answered
abbrev pub after_of : ℕ → Option Remembered → Sources → Mac → ℕ → Lanes → ℕ → Sources
after_of w None s src seq lanes now = with_room now s ++ (src, begun_at w seq lanes now) ∷ []
after_of w (Some h) s src seq lanes now = set_value (mac_eq src) s (heard_next w h seq lanes now)

abbrev pub arrive_answer : ℕ → Sources → Mac → ℕ → Lanes → ℕ → Option Lanes
arrive_answer w s src seq lanes now = answer_of w (lookup (mac_eq src) s) s seq lanes now

-- why an arrival is refused: want of memory, where the table is not full
abbrev pub arrive_fault : Option Lanes → DupFault
arrive_fault None = TableFull
arrive_fault (Some lanes) = NoMemory

abbrev pub after_arrive : ℕ → Sources → Mac → ℕ → Lanes → ℕ → Sources
after_arrive w s src seq lanes now = after_of w (lookup (mac_eq src) s) s src seq lanes now

-- what a table of one width keeps: its sources, and the sources whose place is held
pub record Contents : Type 0 where
  pub sources : Sources
  pub held : List Mac

-- what contracts see of a table: how many numbers of a source it remembers, its sources, and those whose place is held
pub record Table : Type 0 where
  pub width : ℕ
  pub sources : Sources
  pub held : List Mac

-- whether a place is held for a source
abbrev pub is_held : List Mac → Mac → Bool
is_held held src = list_any (mac_eq src) held

-- whether the next arrival of a source takes no memory: it has a record, or a place is held for it
abbrev pub is_ready : List Mac → Sources → Mac → Bool
is_ready held s src = is_held held src || is_some (lookup (mac_eq src) s)

-- whether two tables are equal: they have one width, and their sources are one; held places don't count
abbrev pub same_tables : Table → Table → Bool
same_tables = eq_of_both (on (λ t. t.width) nat_eq) (on (λ t. t.sources) same_sources)
