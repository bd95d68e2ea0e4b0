-- Runs of a merge: packets are taken, and written. What happened is newest first, what is written is in order.
use Rattle.std.specs.Prelude.{
  ◌≡◌,
  ℕ,
  ◌/◌,
  ◌≤◌,
  Bool,
  true,
  not,
  List,
  [],
  ◌∷◌,
  ◌++◌,
  map,
  Option,
  None,
  Some,
  if◌then◌else◌,
  ℤ,
}
use Rattle.std.specs.List.{list_any}
use Rattle.sr_sequence.specs.Numbers.{wire}
use Rattle.sr_dup_window.specs.declared.lane_sets.Lanes.{Lanes}
use Rattle.sr_dup_table.specs.Limits.{window}
use Rattle.sr_dup_table.specs.Sources.{Sources}
use Rattle.sr_laws_dup.specs.TableRuns.{Arrival, is_copy, AreSteady}
use Rattle.sr_merge.specs.declared.came.FrameId.{FrameId}
use Rattle.sr_merge.specs.Limits.{record_step}
use Rattle.sr_merge.specs.Merging.{Read, Pending, Merging, answer_for, is_new, sources_told, TakesIn}

-- a packet that was taken, and the whole number of its frame: none where it has no number, or where the record was full and could not tell
pub record Numbered : Type 0 where
  pub packet : Read
  pub whole : Option ℤ

-- any whole number will do that the wire carries so
abbrev pub IsNumber : FrameId → Option Lanes → Option ℤ → Type 0
IsNumber f None whole = whole ≡ None
IsNumber f (Some fresh) whole = (n : ℤ) × (whole ≡ Some n) × (f.seq.0 ≡ wire n)

abbrev pub HasWhole : Sources → ℕ → Option FrameId → Option ℤ → Type 0
HasWhole s time None whole = whole ≡ None
HasWhole s time (Some f) whole = IsNumber f (answer_for s f time) whole

-- what happens to a merge: a packet is taken, or the first one that waits is written
pub data MergeTurn : Type 0 where
  took : (x : Numbered) → MergeTurn
  wrote : (w : Pending) → MergeTurn

-- a turn leads from what was kept to what is
abbrev pub Turns : Merging → MergeTurn → Merging → Type 0
Turns old (took x) new = HasWhole old.sources x.packet.came.time x.packet.came.frame x.whole × TakesIn old x.packet new
Turns old (wrote w) new = (new.sources ≡ old.sources) × (old.waiting ≡ w ∷ new.waiting)

-- the turns lead a new merge to what it keeps
abbrev pub MergeRun : List MergeTurn → Merging → Type 0
MergeRun [] m = (m.sources ≡ []) × (m.waiting ≡ [])
MergeRun (turn ∷ before) m = (old : Merging) × MergeRun before old × Turns old turn m

-- the packets that were taken
abbrev pub reads : List MergeTurn → List Numbered
reads [] = []
reads (took x ∷ before) = x ∷ reads before
reads (wrote w ∷ before) = reads before

-- the packets that were written, in order
abbrev pub written_in : List MergeTurn → List Read
written_in [] = []
written_in (took x ∷ before) = written_in before
written_in (wrote w ∷ before) = written_in before ++ w.packet ∷ []

-- the packets that wait
abbrev pub packets_in : List Pending → List Read
packets_in ws = map (λ w. w.packet) ws

-- the numbered arrival that a packet is, if it is one; the record counts the steps of its clock
abbrev pub arrival_as : ℕ → Option FrameId → Option ℤ → List Arrival
arrival_as time None whole = []
arrival_as time (Some f) None = []
arrival_as time (Some f) (Some n) = record { src = f.src; number = n; time = time / record_step } ∷ []

abbrev pub arrival_read : Numbered → List Arrival
arrival_read x = arrival_as x.packet.came.time x.packet.came.frame x.whole

abbrev pub arrivals_read : List Numbered → List Arrival
arrivals_read [] = []
arrivals_read (x ∷ before) = arrival_read x ++ arrivals_read before

-- no copy of a packet is among earlier arrivals; of one without a number none ever is
abbrev pub is_first : List Arrival → List Arrival → Bool
is_first before [] = true
is_first before (a ∷ others) = not (list_any (is_copy a.src a.number) before)

-- of some packets, newest first, those of whose frame no copy came before, in order
abbrev pub firsts : List Numbered → List Read
firsts [] = []
firsts (x ∷ before) = firsts before ++ (if is_first (arrivals_read before) (arrival_read x) then x.packet ∷ [] else [])

-- the time of the newest of some arrivals
abbrev pub newest_arrival : List Arrival → ℕ
newest_arrival [] = 0
newest_arrival (a ∷ before) = a.time

-- no time goes back
abbrev pub AreInTime : List Arrival → Type 0
AreInTime [] = Unit {0}
AreInTime (a ∷ before) = AreInTime before × (newest_arrival before ≤ a.time)

-- in a steady run what was written and what waits are the first copies of all frames and the packets without number, in order, under
-- each numbering under which the run is steady
abbrev pub EachFrameIsWrittenOnce : Type 0
EachFrameIsWrittenOnce = (turns : List MergeTurn) (m : Merging) → MergeRun turns m → AreInTime (arrivals_read (reads turns)) →
    AreSteady window (arrivals_read (reads turns)) →
    written_in turns ++ packets_in m.waiting ≡ firsts (reads turns)

-- what the record knows after some packets
abbrev pub known_after : List Numbered → Sources
known_after [] = []
known_after (x ∷ before) = sources_told (known_after before) x.packet.came.time x.packet.came.frame

-- those that it answers as new, or can't tell, in order
abbrev pub news : List Numbered → List Read
news [] = []
news (x ∷ before) =
    news before ++ (if is_new (known_after before) x.packet.came.time x.packet.came.frame then x.packet ∷ [] else [])

-- in every run what was written and what waits are the packets that the record answers as new
abbrev pub WhatIsNewIsWritten : Type 0
WhatIsNewIsWritten = (turns : List MergeTurn) (m : Merging) → MergeRun turns m →
    (m.sources ≡ known_after (reads turns)) × (written_in turns ++ packets_in m.waiting ≡ news (reads turns))
