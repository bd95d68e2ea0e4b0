-- What is asked of the traffic of a plant, in the words of its run: carries, clocks and counts.
use Rattle.std.specs.Prelude.{◌≡◌, ℕ, suc, ◌+◌, ◌-◌, ◌<◌, ◌≤◌, ◌==◌, ◌&&◌, nat_lt, Bool, false, if◌then◌else◌}
use Rattle.std.specs.Prelude.{List, [], ◌∷◌, ◌++◌, length, replicate, Option, None, Some, slice_get}
use Rattle.std.specs.List.{remove}
use Rattle.std.specs.Option.{option_to_list}
use Rattle.sr_dup_table.specs.Limits.{forget_time}
use Rattle.sr_node.specs.Images.{State}
use Rattle.sr_node.specs.LifeChecks.{is_due}
use Rattle.sr_node.specs.Starts.{Start}
use Rattle.sr_laws_plant.specs.Limits.{most_sent}
use Rattle.sr_laws_plant.specs.Lists.{how_many}
use Rattle.sr_plant.specs.declared.event.PlantEvent.{PlantEvent}
use Rattle.sr_plant.specs.declared.event.PlantEvent.TheVariants.{Send, Carry, Drop, Repeat, Cut, Mend, Tick}
use Rattle.sr_plant.specs.Copies.{Copy, is_on}
use Rattle.sr_plant.specs.Plants.{Plant}
use Rattle.sr_laws_plant_runs.specs.PlantRuns.{Turn}
use Rattle.sr_laws_plant_runs.specs.TableWidths.{least_width, greatest_width}

-- a frame that a node numbered: the node, how many frames it had numbered before, and the plant's time
pub record Numbering : Type 0 where
  pub node : ℕ
  pub before : ℕ
  pub time : ℕ

abbrev pub is_of : ℕ → Numbering → Bool
is_of k m = k == m.node

-- how many frames a node has numbered
abbrev pub count_of : ℕ → List Numbering → ℕ
count_of k ms = how_many (is_of k) ms

-- the next one of a node
abbrev pub next_of : ℕ → List Numbering → ℕ → Numbering
next_of i earlier time = record { node = i; before = count_of i earlier; time = time }

-- a life check of a node is due
abbrev pub is_due_in : Option State → ℕ → Bool
is_due_in None now = false
is_due_in (Some n) now = is_due n.core.life_at now

-- what an event numbers, after these: the frame of a host, or a life check that is due
abbrev pub numbered_in : List Numbering → Plant → PlantEvent → List Numbering
numbered_in earlier s (Send i frame) = next_of i earlier s.clock ∷ []
numbered_in earlier s (Carry place) = []
numbered_in earlier s (Drop place) = []
numbered_in earlier s (Repeat place) = []
numbered_in earlier s (Cut link) = []
numbered_in earlier s (Mend link) = []
numbered_in earlier s (Tick i now) = if is_due_in (slice_get s.nodes i) now then next_of i earlier now ∷ [] else []

-- all that the nodes numbered, the newest first
abbrev pub numberings : List Turn → List Numbering
numberings [] = []
numberings (turn ∷ before) = numbered_in (numberings before) turn.before turn.event ++ numberings before

-- so many copies of one of them
abbrev pub copied : ℕ → Option Numbering → List Numbering
copied n None = []
copied n (Some m) = replicate n m

-- those of copies that are not on a link
abbrev pub marks_off : ℕ → List Copy → List Numbering → List Numbering
marks_off link [] ms = []
marks_off link (c ∷ cs) [] = []
marks_off link (c ∷ cs) (m ∷ ms) = if is_on link c then marks_off link cs ms else m ∷ marks_off link cs ms

-- Of which numbered frame each copy in flight is, after an event, where these are those before it: what is put out is a copy of the frame
-- that the event numbers, or of the one that is carried.
abbrev pub marks_after : List Numbering → List Numbering → Plant → PlantEvent → Plant → List Numbering
marks_after earlier ms s (Send i frame) t = ms ++ replicate (length t.flight - length s.flight) (next_of i earlier s.clock)
marks_after earlier ms s (Carry place) t = remove ms place ++ copied (suc (length t.flight) - length s.flight) (slice_get ms place)
marks_after earlier ms s (Drop place) t = remove ms place
marks_after earlier ms s (Repeat place) t = ms ++ option_to_list (slice_get ms place)
marks_after earlier ms s (Cut link) t = marks_off link s.flight ms
marks_after earlier ms s (Mend link) t = ms
marks_after earlier ms s (Tick i now) t = ms ++ replicate (length t.flight - length s.flight) (next_of i earlier now)

-- of which numbered frame each copy in flight is
abbrev pub marks : List Turn → Plant → List Numbering
marks [] s = []
marks (turn ∷ before) s = marks_after (numberings before) (marks before turn.before) turn.before turn.event s

-- Early and young: a copy is carried while its node has numbered fewer later frames than any table remembers numbers, and less than 400 ms
-- after its frame was numbered.
abbrev pub IsTimely : ℕ → List Numbering → List Numbering → Plant → PlantEvent → Type 0
IsTimely least earlier ms s (Send i frame) = Unit {0}
IsTimely least earlier ms s (Carry place) =
    (m : Numbering) → slice_get ms place ≡ Some m →
    (count_of m.node earlier - (m.before + 1) < least) × (s.clock < m.time + forget_time)
IsTimely least earlier ms s (Drop place) = Unit {0}
IsTimely least earlier ms s (Repeat place) = Unit {0}
IsTimely least earlier ms s (Cut link) = Unit {0}
IsTimely least earlier ms s (Mend link) = Unit {0}
IsTimely least earlier ms s (Tick i now) = Unit {0}

-- the plant's time of an event
abbrev pub time_of : Plant → PlantEvent → ℕ
time_of s (Send i frame) = s.clock
time_of s (Carry place) = s.clock
time_of s (Drop place) = s.clock
time_of s (Repeat place) = s.clock
time_of s (Cut link) = s.clock
time_of s (Mend link) = s.clock
time_of s (Tick i now) = now

-- Few numbered: no node numbered more frames less than 400 ms ago than 65536 less twice the numbers that any table remembers.
abbrev pub AreFew : ℕ → List Numbering → ℕ → Type 0
AreFew greatest ms now = (k : ℕ) → how_many (λ m. is_of k m && nat_lt now (m.time + forget_time)) ms ≤ most_sent greatest

-- The limits on the traffic, at each event of a run of a plant whose nodes begin so: early by the least width of their tables, few by the
-- greatest.
abbrev pub IsWithinLimits : List Start → List Turn → Type 0
IsWithinLimits starts [] = Unit {0}
IsWithinLimits starts (turn ∷ before) =
    IsWithinLimits starts before
    × IsTimely (least_width starts) (numberings before) (marks before turn.before) turn.before turn.event
    × AreFew (greatest_width starts) (numberings (turn ∷ before)) (time_of turn.before turn.event)
