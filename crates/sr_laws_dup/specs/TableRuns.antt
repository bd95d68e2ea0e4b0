-- Runs of a table of either width, and what they are asked to be. Newest first, so that what came before a turn is the rest of the list.
use Rattle.std.specs.Prelude.{
  ◌≡◌,
  ℕ,
  ◌-◌,
  ◌≤◌,
  ◌⊎◌,
  Bool,
  false,
  not,
  ◌&&◌,
  nat_lt,
  List,
  [],
  ◌∷◌,
  map,
  filter,
  Some,
  if◌then◌else◌,
  ℤ,
  pos,
}
use Rattle.std.specs.Ordering.{int_eq}
use Rattle.std.specs.List.{list_any}
use Rattle.std.specs.Map.{lookup}
use Rattle.sr_frame.specs.declared.fields.Mac.{Mac}
use Rattle.sr_sequence.specs.Numbers.{wire, IsNear}
use Rattle.sr_sequence.specs.Places.{steps}
use Rattle.sr_dup_window.specs.declared.lane_sets.Lane.{Lane}
use Rattle.sr_dup_window.specs.declared.lane_sets.Lanes.{Lanes}
use Rattle.sr_dup_window.specs.LaneSets.{has, is_empty}
use Rattle.sr_dup_window.specs.Families.{greater}
use Rattle.sr_frame.specs.Addresses.{mac_eq}
use Rattle.sr_dup_window.specs.Bins.{IsWidth}
use Rattle.sr_dup_table.specs.Limits.{forget_time}
use Rattle.sr_dup_table.specs.Sources.{Remembered, Sources, is_live, live_at, arrive_answer, after_arrive}

-- a numbered arrival: its source, its number without bound, its time in milliseconds
pub record Arrival : Type 0 where
  pub src : Mac
  pub number : ℤ
  pub time : ℕ

-- the arrivals of a source's epoch at a time: each came less than 400 ms before the one after it, and the newest less than 400 ms before
-- that time
abbrev pub epoch : Mac → ℕ → List Arrival → List Arrival
epoch src now [] = []
epoch src now (x ∷ before) =
    if mac_eq src x.src
    then (if nat_lt (now - x.time) forget_time then x ∷ epoch src x.time before else [])
    else epoch src now before

-- the greatest number of some arrivals, one at least
abbrev pub greatest_of : List Arrival → ℤ
greatest_of [] = pos 0
greatest_of (x ∷ []) = x.number
greatest_of (x ∷ y ∷ before) = greater (greatest_of (y ∷ before)) x.number

-- an arrival with this source and number: copies of one frame
abbrev pub is_copy : Mac → ℤ → Arrival → Bool
is_copy src number x = mac_eq src x.src && int_eq number x.number

abbrev pub copies_of : Mac → ℤ → List Arrival → List Arrival
copies_of src number xs = filter (is_copy src number) xs

-- a number is one of the 65536 that may follow those of its epoch; any may begin one
abbrev pub IsNearAll : ℕ → List Arrival → ℤ → Type 0
IsNearAll w [] number = Unit {0}
IsNearAll w (x ∷ before) number = IsNear w (greatest_of (x ∷ before)) number

-- an arrival after others: it is near those of its epoch, and all copies before it are in its epoch
abbrev pub IsNext : ℕ → List Arrival → Arrival → Type 0
IsNext w before x = IsNearAll w (epoch x.src x.time before) x.number
    × (copies_of x.src x.number before ≡ copies_of x.src x.number (epoch x.src x.time before))

-- arrivals, each of which is next after those before it; whatever the lanes on which they are noted
abbrev pub AreSteady : ℕ → List Arrival → Type 0
AreSteady w [] = Unit {0}
AreSteady w (x ∷ before) = AreSteady w before × IsNext w before x

-- an arrival and the lanes on which it is noted
pub record Noting : Type 0 where
  pub arrival : Arrival
  pub lanes : Lanes

-- some copy was noted on this lane
abbrev pub was_noted : Mac → ℤ → Lane → List Noting → Bool
was_noted src number lane xs = list_any (λ x. is_copy src number x.arrival && has x.lanes lane) xs

-- what happens to a table: a noting with the lanes on which it was new, or ageing at a time
pub data TableTurn : Type 0 where
  arrived : (noting : Noting) (fresh : Lanes) → TableTurn
  aged : (now : ℕ) → TableTurn

abbrev pub time_of : TableTurn → ℕ
time_of (arrived x fresh) = x.arrival.time
time_of (aged now) = now

-- what was noted in a run that began with these notings
abbrev pub notings_of : List Noting → List TableTurn → List Noting
notings_of start [] = start
notings_of start (arrived x fresh ∷ before) = x ∷ notings_of start before
notings_of start (aged now ∷ before) = notings_of start before

-- its arrivals
abbrev pub arrivals_of : List Noting → List Arrival
arrivals_of xs = map (λ x. x.arrival) xs

-- the time of the newest turn, or that of the start
abbrev pub latest : ℕ → List TableTurn → ℕ
latest from [] = from
latest from (turn ∷ before) = time_of turn

-- a turn leads from one state of the table to the next
abbrev pub Takes : ℕ → Sources → TableTurn → Sources → Type 0
Takes w s (arrived x fresh) t =
    (is_empty x.lanes ≡ false)
    × (arrive_answer w s x.arrival.src (wire x.arrival.number) x.lanes x.arrival.time ≡ Some fresh)
    × (t ≡ after_arrive w s x.arrival.src (wire x.arrival.number) x.lanes x.arrival.time)
Takes w s (aged now) t = t ≡ live_at now s

-- the turns lead a table of this width from these sources to those
abbrev pub TableRun : ℕ → Sources → List TableTurn → Sources → Type 0
TableRun w start [] t = t ≡ start
TableRun w start (turn ∷ before) t = (s : Sources) × TableRun w start before s × Takes w s turn t

-- no time goes back, from that of the start on
abbrev pub AreInOrder : ℕ → List TableTurn → Type 0
AreInOrder from [] = Unit {0}
AreInOrder from (turn ∷ before) = AreInOrder from before × (latest from before ≤ time_of turn)

-- a steady run: no time goes back, and its arrivals are steady after the notings that it began with
abbrev pub IsSteadyRun : ℕ → ℕ → List Noting → List TableTurn → Type 0
IsSteadyRun w from start turns = AreInOrder from turns × AreSteady w (arrivals_of (notings_of start turns))

-- in a steady run from the empty table an arrival is new on exactly the asked lanes on which no earlier copy was noted
abbrev pub EachPairIsNewOnce : Type 0
EachPairIsNewOnce = (w : ℕ) → IsWidth w → (x : Noting) (fresh : Lanes) (before : List TableTurn) (t : Sources) (lane : Lane) →
    TableRun w [] (arrived x fresh ∷ before) t → IsSteadyRun w 0 [] (arrived x fresh ∷ before) →
    has fresh lane ≡ (has x.lanes lane && not (was_noted x.arrival.src x.arrival.number lane (notings_of [] before)))

-- a record can tell nothing of a number: its source is forgotten, or the number is a width or more behind the reference
abbrev pub IsBeyond : ℕ → Remembered → ℕ → ℕ → Type 0
IsBeyond w h seq now = (is_live now h ≡ false) ⊎ (w ≤ steps seq h.seen.reference)

-- in any table of any width, such a number is new on all asked lanes
abbrev pub BeyondIsNew : Type 0
BeyondIsNew = (w : ℕ) (s : Sources) (src : Mac) (seq : ℕ) (lanes fresh : Lanes) (now : ℕ) (h : Remembered) (lane : Lane) →
    lookup (mac_eq src) s ≡ Some h → IsBeyond w h seq now → arrive_answer w s src seq lanes now ≡ Some fresh →
    has fresh lane ≡ has lanes lane

-- arrivals of one source at one time under these numbers
abbrev pub at_once : Mac → ℕ → List ℤ → List Arrival
at_once src now numbers = map (λ n. record { src = src; number = n; time = now }) numbers

-- all such arrivals are steady, at either width
abbrev pub NumbersAreSteady : List ℤ → Type 0
NumbersAreSteady numbers = (w : ℕ) → IsWidth w → (src : Mac) (now : ℕ) → AreSteady w (at_once src now numbers)

-- frames that overtook each other on one path, and came in order by the other: 3, 2, 1, then 1, 2, 3
abbrev pub late_copies : List ℤ
late_copies = pos 3 ∷ pos 2 ∷ pos 1 ∷ pos 1 ∷ pos 2 ∷ pos 3 ∷ []

-- both copies of the frames with the wire's numbers 65534, 65535, 0 and 1
abbrev pub over_the_end : List ℤ
over_the_end = pos 65537 ∷ pos 65537 ∷ pos 65536 ∷ pos 65536 ∷ pos 65535 ∷ pos 65535 ∷ pos 65534 ∷ pos 65534 ∷ []
