-- What happens at one node in a run of a plant: a run of the node.
use Rattle.std.specs.Prelude.{◌≡◌, ◌⊎◌, ℕ, ◌==◌, ℤ, List, [], ◌∷◌, length, Some, slice_get, if◌then◌else◌}
use Rattle.std.proofs.Common.{inl, inr}
use Rattle.sr_frame.specs.declared.ports.Port.{Port}
use Rattle.sr_node.specs.declared.event.Event.{Event}
use Rattle.sr_node.specs.declared.event.Event.TheVariants as node
use Rattle.sr_node.specs.Images.{State}
use Rattle.sr_node.specs.Starts.{Start}
use Rattle.sr_laws_node.specs.Brought.{parcels_of, taken, went}
use Rattle.sr_laws_node.specs.Emptying.{takes_everywhere}
use Rattle.sr_laws_node.specs.NodeRuns.{happened, Run}
use Rattle.sr_laws_node.specs.NodeRuns as runs
use Rattle.sr_laws_node.specs.SteadyNodes.{IsSteady}
use Rattle.sr_plant.specs.declared.topology.Topology.{Topology}
use Rattle.sr_plant.specs.declared.event.PlantEvent.{PlantEvent}
use Rattle.sr_plant.specs.declared.event.PlantEvent.TheVariants.{Send, Carry, Drop, Repeat, Cut, Mend, Tick}
use Rattle.sr_plant.specs.Copies.{Copy}
use Rattle.sr_plant.specs.Plants.{Plant}
use Rattle.sr_plant.specs.Steps.{Acts, Comes, IsLost, PlantStep, without}
use Rattle.sr_laws_plant_runs.specs.PlantRuns.{Turn, PlantRun}

-- Node k took the event that node i took, if it is that node, and then all that waited in it was taken out. The event has this whole
-- number.
abbrev pub acted_turns : (k : ℕ) (s : Plant) (i : ℕ) (e : Event) (now : ℕ) (v : Plant) → Acts s i e now v → ℤ →
    List runs.Turn → List runs.Turn
acted_turns k s i e now v acts n turns =
    if k == i then takes_everywhere acts.after (happened acts.before e acts.answer n ∷ turns) else turns

-- so it took the copy that was carried to it; what its receiver refuses is no turn of it
abbrev pub carried_turns : (k : ℕ) (s : Plant) (place : ℕ) (v : Plant) (c : Copy) →
    Comes s place c v ⊎ (IsLost s c × (v ≡ without s place)) → ℤ → List runs.Turn → List runs.Turn
carried_turns k s place v c (inl comes) n turns =
    if k == c.hop.to.node
    then takes_everywhere comes.after (happened comes.before (node.Arrive c.hop.to.port comes.taken.0 s.clock) comes.answer n ∷ turns)
    else turns
carried_turns k s place v c (inr lost) n turns = turns

-- an event of the plant
abbrev pub event_turns : (k : ℕ) (s : Plant) (e : PlantEvent) (v : Plant) → PlantStep s e v → ℤ → List runs.Turn → List runs.Turn
event_turns k s (Send i frame) v acts n turns = acted_turns k s i (node.Send frame s.clock) s.clock v acts n turns
event_turns k s (Carry place) v step n turns = carried_turns k s place v step.0 step.2 n turns
event_turns k s (Drop place) v step n turns = turns
event_turns k s (Repeat place) v step n turns = turns
event_turns k s (Cut link) v step n turns = turns
event_turns k s (Mend link) v step n turns = turns
event_turns k s (Tick i now) v acts n turns = acted_turns k s i (node.Tick now) now v acts n turns

-- All of them, newest first. Whichever whole number each event has, by how many came before it: a frame that is carried has it.
abbrev pub node_turns : (k : ℕ) → (ℕ → ℤ) → (t : Topology) (starts : List Start) (turns : List Turn) (s : Plant) →
    PlantRun t starts turns s → List runs.Turn
node_turns k numbers t starts [] s run = []
node_turns k numbers t starts (turn ∷ before) s run =
    event_turns k turn.before turn.event s run.2 (numbers (length before)) (node_turns k numbers t starts before turn.before run.0)

-- what happens at a node is a run of it, from its own start to its state in the plant
abbrev pub NodesRun : Type 0
NodesRun =
    (t : Topology) (starts : List Start) (turns : List Turn) (s : Plant) (run : PlantRun t starts turns s) (k : ℕ) (numbers : ℕ → ℤ)
    (start : Start) (m : State) → slice_get starts k ≡ Some start → slice_get s.nodes k ≡ Some m →
    Run start (node_turns k numbers t starts turns s run) m

-- So where numbers make that run steady, what the node put out at an outlet in the whole run of the plant is, in order, what came in and is
-- wanted there, each pair of source and number once.
abbrev pub NodesPutOutOnce : Type 0
NodesPutOutOnce =
    (t : Topology) (starts : List Start) (turns : List Turn) (s : Plant) (run : PlantRun t starts turns s) (k : ℕ) (numbers : ℕ → ℤ)
    (start : Start) (m : State) (o : Port) → slice_get starts k ≡ Some start → slice_get s.nodes k ≡ Some m →
    IsSteady start (node_turns k numbers t starts turns s run) →
    taken o (node_turns k numbers t starts turns s run) ≡ parcels_of (went o (node_turns k numbers t starts turns s run))
