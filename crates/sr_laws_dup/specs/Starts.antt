-- Runs that begin with a table that has heard sources before.
use Rattle.std.specs.Prelude.{◌≡◌, ℕ, ◌≤◌, not, ◌&&◌, List, [], ◌∷◌, ◌++◌, Some, if◌then◌else◌, ℤ, ◌-ℤ◌, pos}
use Rattle.std.specs.List.{IsDistinct}
use Rattle.std.specs.Map.{lookup, keys_of}
use Rattle.sr_frame.specs.declared.fields.Mac.{Mac}
use Rattle.sr_frame.specs.Addresses.{mac_eq}
use Rattle.sr_sequence.specs.Numbers.{wire}
use Rattle.sr_dup_window.specs.declared.lane_sets.Lane.{Lane}
use Rattle.sr_dup_window.specs.declared.lane_sets.Lanes.{Lanes}
use Rattle.sr_dup_window.specs.LaneSets.{has, is_empty}
use Rattle.sr_dup_window.specs.Bins.{IsWidth}
use Rattle.sr_dup_window.specs.Records.{IsWhole}
use Rattle.sr_dup_table.specs.Sources.{Remembered, Sources}
use Rattle.sr_laws_dup.specs.TableRuns.{Noting, was_noted, TableTurn, arrived, notings_of, arrivals_of, TableRun, AreSteady, IsSteadyRun}

-- what a record has noted, as notings at one time, the greatest number newest: n is the whole number of its first mark, and each
-- mark behind it belongs to the number before
abbrev pub pairs : Mac → ℤ → ℕ → List Lanes → List Noting
pairs src n time [] = []
pairs src n time (lanes ∷ marks) =
    if is_empty lanes
    then pairs src (n -ℤ pos 1) time marks
    else record { arrival = record { src = src; number = n; time = time }; lanes = lanes } ∷ pairs src (n -ℤ pos 1) time marks

-- what a table has noted, each source at the time when it was last heard; `top` says which whole number each greatest one is
abbrev pub stood : (Mac → ℤ) → Sources → List Noting
stood top [] = []
stood top (e ∷ s) = pairs e.0 (top e.0) e.1.time e.1.seen.marks ++ stood top s

-- a source that was last heard by this time, whose greatest number is this whole one
pub record IsSourceOf (w : ℕ) (from : ℕ) (number : ℤ) (h : Remembered) : Type 0 where
  pub whole : IsWhole w h.seen
  pub reference : h.seen.reference ≡ wire number
  pub time : h.time ≤ from

-- a table that a run may begin with at this time: no source twice, and none heard later
pub record IsStart (w : ℕ) (from : ℕ) (top : Mac → ℤ) (s : Sources) : Type 0 where
  pub keys : IsDistinct mac_eq (keys_of s)
  pub each : (src : Mac) (h : Remembered) → lookup (mac_eq src) s ≡ Some h → IsSourceOf w from (top src) h

-- in a steady run from any table an arrival is new on exactly the asked lanes on which no earlier copy was noted, what stood in the
-- table counted as noted; under each numbering of it under which the run is steady
abbrev pub EachPairIsNewAfterAStart : Type 0
EachPairIsNewAfterAStart = (w : ℕ) → IsWidth w → (from : ℕ) (top : Mac → ℤ) (start : Sources) → IsStart w from top start →
    (x : Noting) (fresh : Lanes) (before : List TableTurn) (t : Sources) (lane : Lane) →
    TableRun w start (arrived x fresh ∷ before) t → IsSteadyRun w from (stood top start) (arrived x fresh ∷ before) →
    has fresh lane ≡ (has x.lanes lane && not (was_noted x.arrival.src x.arrival.number lane (notings_of (stood top start) before)))

-- what stands in a table is steady by itself, so that the law asks of the new arrivals alone
abbrev pub StartsAreSteady : Type 0
StartsAreSteady = (w : ℕ) → IsWidth w → (from : ℕ) (top : Mac → ℤ) (s : Sources) → IsStart w from top s
    → AreSteady w (arrivals_of (stood top s))

-- Every table can be such a start once the times of its sources are past, under each choice of whole numbers with the 16 bits of its
-- greatest ones.
abbrev pub CanStart : ℕ → Sources → Type 0
CanStart w s = (from : ℕ) (top : Mac → ℤ)
    → ((src : Mac) (h : Remembered) → lookup (mac_eq src) s ≡ Some h → (h.seen.reference ≡ wire (top src)) × (h.time ≤ from))
    → IsStart w from top s
