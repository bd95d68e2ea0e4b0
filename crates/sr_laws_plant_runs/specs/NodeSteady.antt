-- Within the limits, what happens at a node of a plant is a steady run of the node.
use Rattle.std.specs.Prelude.{◌≡◌, ℕ, ◌+◌, ◌==◌, ℤ, pos, List, [], ◌∷◌, length, Option, None, Some, slice_get, if◌then◌else◌}
use Rattle.sr_frame.specs.declared.ports.Port.{Port}
use Rattle.sr_node.specs.Images.{State}
use Rattle.sr_node.specs.Starts.{Start, width_of}
use Rattle.sr_laws_node.specs.Brought.{parcels_of, taken, went}
use Rattle.sr_laws_node.specs.SteadyNodes.{IsSteady}
use Rattle.sr_laws_plant.specs.Limits.{first_number}
use Rattle.sr_plant.specs.declared.topology.Topology.{Topology}
use Rattle.sr_plant.specs.declared.event.PlantEvent.{PlantEvent}
use Rattle.sr_plant.specs.declared.event.PlantEvent.TheVariants.{Send, Carry, Drop, Repeat, Cut, Mend, Tick}
use Rattle.sr_plant.specs.Plants.{Plant}
use Rattle.sr_laws_plant_runs.specs.Histories.{HaveOwnAddresses}
use Rattle.sr_laws_plant_runs.specs.NodeTurns.{node_turns}
use Rattle.sr_laws_plant_runs.specs.PlantRuns.{Turn, PlantRun}
use Rattle.sr_laws_plant_runs.specs.TableWidths.{widths_of}
use Rattle.sr_laws_plant_runs.specs.Traffic.{Numbering, marks, IsWithinLimits}

-- the whole number of a frame that a node numbered: its first one, and one more for each frame that it had numbered before
abbrev pub number_of_copy : Option Numbering → ℤ
number_of_copy None = pos 0
number_of_copy (Some m) = pos (first_number + m.before)

-- that of the frame that an event carries, by the frames of the copies in flight; no other event has one
abbrev pub number_carried : List Numbering → PlantEvent → ℤ
number_carried ms (Send i frame) = pos 0
number_carried ms (Carry place) = number_of_copy (slice_get ms place)
number_carried ms (Drop place) = pos 0
number_carried ms (Repeat place) = pos 0
number_carried ms (Cut link) = pos 0
number_carried ms (Mend link) = pos 0
number_carried ms (Tick i now) = pos 0

-- that of the event of a run before which so many came
abbrev pub run_numbers : List Turn → ℕ → ℤ
run_numbers [] n = pos 0
run_numbers (turn ∷ before) n =
    if n == length before then number_carried (marks before turn.before) turn.event else run_numbers before n

-- Under these numbers the run of each node is steady, as that of a node which began with a table of its width, where the traffic is within
-- the limits.
abbrev pub NodesRunSteadily : Type 0
NodesRunSteadily =
    (t : Topology) (starts : List Start) (turns : List Turn) (s : Plant) (run : PlantRun t starts turns s) (k : ℕ) (start : Start) →
    width_of start ≡ (widths_of starts).at k → HaveOwnAddresses starts → IsWithinLimits starts turns →
    IsSteady start (node_turns k (run_numbers turns) t starts turns s run)

-- So what a node put out at an outlet in the whole run of the plant is, in order, what came in and is wanted there, each pair of source
-- and number once.
abbrev pub NodesPutOutWithin : Type 0
NodesPutOutWithin =
    (t : Topology) (starts : List Start) (turns : List Turn) (s : Plant) (run : PlantRun t starts turns s) (k : ℕ) (start : Start)
    (m : State) (o : Port) → slice_get starts k ≡ Some start → slice_get s.nodes k ≡ Some m → HaveOwnAddresses starts →
    IsWithinLimits starts turns →
    taken o (node_turns k (run_numbers turns) t starts turns s run)
    ≡ parcels_of (went o (node_turns k (run_numbers turns) t starts turns s run))
