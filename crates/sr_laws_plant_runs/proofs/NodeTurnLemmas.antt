-- What happens at one node in a run of a plant is a run of the node.
use Rattle.std.proofs.Common.{◌≡◌, ◌⊎◌, inl, inr, ℕ, zero, suc, ◌==◌, ℤ, List, [], ◌∷◌, ◌++◌, length, map, Some, slice_get, slice_set, refl, sym, ap, subst, ◌∙◌}
use Rattle.std.specs.Prelude.{if◌then◌else◌}
use Rattle.std.proofs.lemmas.Bool.{eq-eqb}
use Rattle.std.proofs.lemmas.List.{append-nil}
use Rattle.sr_frame.specs.declared.ports.Port.{Port}
use Rattle.sr_frame.specs.declared.ports.Port.TheVariants.{H, A, B, C}
use Rattle.sr_forwarding.specs.Parcels.{ParcelImage}
use Rattle.sr_node.specs.declared.event.Event.{Event}
use Rattle.sr_node.specs.declared.event.Event.TheVariants as node
use Rattle.sr_node.specs.Images.{State}
use Rattle.sr_node.specs.Outboxes.{box_at, boxes_empty}
use Rattle.sr_node.specs.Starts.{Start, begun_as}
use Rattle.sr_laws_node.specs.Brought.{taken}
use Rattle.sr_laws_node.specs.Emptying.{takes_everywhere, EmptiesNodes}
use Rattle.sr_laws_node.specs.NodeLaws.{EachOnce}
use Rattle.sr_laws_node.specs.NodeRuns.{happened, Run}
use Rattle.sr_laws_node.specs.Origins.{new}
use Rattle.sr_laws_node.specs.NodeRuns as runs
use Rattle.sr_plant.specs.declared.topology.Topology.{Topology}
use Rattle.sr_plant.specs.declared.event.PlantEvent.{PlantEvent}
use Rattle.sr_plant.specs.declared.event.PlantEvent.TheVariants.{Send, Carry, Drop, Repeat, Cut, Mend, Tick}
use Rattle.sr_plant.specs.Copies.{Copy}
use Rattle.sr_plant.specs.Plants.{Plant}
use Rattle.sr_plant.specs.Steps.{emptied, Acts, Comes, IsLost, PlantStep, without}
use Rattle.sr_laws_plant_runs.specs.PlantRuns.{Turn, PlantRun}
use Rattle.sr_laws_plant_runs.specs.NodeTurns.{acted_turns, carried_turns, event_turns, node_turns, NodesRun, NodesPutOutOnce}
use Rattle.sr_laws_plant_runs.proofs.CopyLemmas.{where_set}

-- a node's run that leads to its state, in which nothing waits
record RunsTo (start : Start) (turns : List runs.Turn) (m : State) : Type 0 where
  run : Run start turns m
  quiet : m.core.out ≡ boxes_empty

-- so each node of a plant that has a start
abbrev RunsAt : ℕ → Start → List runs.Turn → List State → Type 0
RunsAt k start turns nodes = (m : State) → slice_get nodes k ≡ Some m → RunsTo start turns m

begun_there : (starts : List Start) (k : ℕ) (start : Start) (m : State) → slice_get starts k ≡ Some start →
    slice_get (map begun_as starts) k ≡ Some m → m ≡ begun_as start
begun_there [] k start m is at = absurd cc
begun_there (r ∷ starts) zero start m is at =
    let one : r ≡ start = cc in
    let same : begun_as r ≡ m = cc in
    sym same ∙ ap begun_as one
begun_there (r ∷ starts) (suc k) start m is at = begun_there starts k start m is at

-- node i took an event, and was emptied
node_acts : EmptiesNodes → (k i : ℕ) (start : Start) (nodes : List State) (turns : List runs.Turn) (before after : State) (turn : runs.Turn) →
    RunsAt k start turns nodes → slice_get nodes i ≡ Some before → (Run start turns before → Run start (turn ∷ turns) after) →
    RunsAt k start (if k == i then takes_everywhere after (turn ∷ turns) else turns) (slice_set nodes i (emptied after))
node_acts empty k i start nodes turns before after turn so_far there step m at =
    elim (where_set nodes i k (emptied after) m at) [
      | inl set ↦ here set.place set.same
      | inr other ↦ rw other.0 (so_far m other.1)
    ]
  where
    here : k ≡ i → m ≡ emptied after → RunsTo start (if k == i then takes_everywhere after (turn ∷ turns) else turns) m
    here place same =
        let old : RunsTo start turns before = so_far before (ap (λ (x : ℕ). slice_get nodes x) place ∙ there) in
        let run : Run start (takes_everywhere after (turn ∷ turns)) (emptied after) = empty (new start) (turn ∷ turns) after (step old.run) in
        rw (eq-eqb k i place) (record {
          run = subst (Run start (takes_everywhere after (turn ∷ turns))) (sym same) run;
          quiet = ap (λ (x : State). x.core.out) same;
        })

acts_on : EmptiesNodes → (k : ℕ) (s : Plant) (i : ℕ) (e : Event) (now : ℕ) (v : Plant) (acts : Acts s i e now v) (n : ℤ) (start : Start)
    (turns : List runs.Turn) → RunsAt k start turns s.nodes → RunsAt k start (acted_turns k s i e now v acts n turns) v.nodes
acts_on empty k s i e now v acts n start turns so_far =
    subst (RunsAt k start (acted_turns k s i e now v acts n turns)) (sym (ap (λ (x : Plant). x.nodes) acts.plant))
    (node_acts empty k i start s.nodes turns acts.before acts.after (happened acts.before e acts.answer n) so_far acts.there (λ run. (run, acts.fits, acts.step)))

carried_on : EmptiesNodes → (k : ℕ) (s : Plant) (place : ℕ) (v : Plant) (c : Copy) (step : Comes s place c v ⊎ (IsLost s c × (v ≡ without s place)))
    (n : ℤ) (start : Start) (turns : List runs.Turn) → RunsAt k start turns s.nodes → RunsAt k start (carried_turns k s place v c step n turns) v.nodes
carried_on empty k s place v c (inl comes) n start turns so_far =
    subst (RunsAt k start (carried_turns k s place v c (inl comes) n turns)) (sym (ap (λ (x : Plant). x.nodes) comes.plant))
    (node_acts empty k c.hop.to.node start s.nodes turns comes.before comes.after
    (happened comes.before (node.Arrive c.hop.to.port comes.taken.0 s.clock) comes.answer n) so_far comes.there
    (λ run. (run, comes.taken.2, comes.taken.3)))
carried_on empty k s place v c (inr lost) n start turns so_far = subst (RunsAt k start turns) (sym (ap (λ (x : Plant). x.nodes) lost.1)) so_far

step_on : EmptiesNodes → (k : ℕ) (s : Plant) (e : PlantEvent) (v : Plant) (step : PlantStep s e v) (n : ℤ) (start : Start) (turns : List runs.Turn) →
    RunsAt k start turns s.nodes → RunsAt k start (event_turns k s e v step n turns) v.nodes
step_on empty k s (Send i frame) v acts n start turns so_far = acts_on empty k s i (node.Send frame s.clock) s.clock v acts n start turns so_far
step_on empty k s (Carry place) v step n start turns so_far = carried_on empty k s place v step.0 step.2 n start turns so_far
step_on empty k s (Drop place) v step n start turns so_far = subst (RunsAt k start turns) (sym (ap (λ (x : Plant). x.nodes) step)) so_far
step_on empty k s (Repeat place) v step n start turns so_far = subst (RunsAt k start turns) (sym (ap (λ (x : Plant). x.nodes) step.2)) so_far
step_on empty k s (Cut link) v step n start turns so_far = subst (RunsAt k start turns) (sym (ap (λ (x : Plant). x.nodes) step)) so_far
step_on empty k s (Mend link) v step n start turns so_far = subst (RunsAt k start turns) (sym (ap (λ (x : Plant). x.nodes) step)) so_far
step_on empty k s (Tick i now) v acts n start turns so_far = acts_on empty k s i (node.Tick now) now v acts n start turns so_far

nodes_run_to : EmptiesNodes → (t : Topology) (starts : List Start) (turns : List Turn) (s : Plant) (run : PlantRun t starts turns s) (k : ℕ) (numbers : ℕ → ℤ)
    (start : Start) → slice_get starts k ≡ Some start → RunsAt k start (node_turns k numbers t starts turns s run) s.nodes
nodes_run_to empty t starts [] s run k numbers start is = first
  where
    first : RunsAt k start [] s.nodes
    first m at =
        let begun : m ≡ begun_as start =
        begun_there starts k start m is (ap (λ (x : Plant). slice_get x.nodes k) (sym run.1) ∙ at) in
        record { run = begun; quiet = ap (λ (x : State). x.core.out) begun }
nodes_run_to empty t starts (turn ∷ before) s run k numbers start is =
    step_on empty k turn.before turn.event s run.2 (numbers (length before)) start (node_turns k numbers t starts before turn.before run.0)
    (nodes_run_to empty t starts before turn.before run.0 k numbers start is)

pub nodes_run : EmptiesNodes → NodesRun
nodes_run empty t starts turns s run k numbers start m is at = (nodes_run_to empty t starts turns s run k numbers start is m at).run

pub nodes_put_out_once : EmptiesNodes → EachOnce → NodesPutOutOnce
nodes_put_out_once empty each t starts turns s run k numbers start m o is at steady =
    let to = nodes_run_to empty t starts turns s run k numbers start is m at in
    let ts = node_turns k numbers t starts turns s run in
    let none : box_at m.core.out o ≡ [] = ap (λ b. box_at b o) to.quiet ∙ by o in
    sym (append-nil (taken o ts)) ∙ ap (λ (x : List ParcelImage). taken o ts ++ x) (sym none) ∙ each (new start) ts m o to.run steady
  where
    by : (q : Port) → box_at boxes_empty q ≡ []
    by H = refl
    by A = refl
    by B = refl
    by C = refl
