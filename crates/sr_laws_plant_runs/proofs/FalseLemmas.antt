-- False histories are refused.
use Rattle.std.proofs.Common.{◌≡◌, ◌≢◌, inl, inr, ℕ, ◌%◌, true, false, List, [], ◌∷◌, length, Option, None, Some, sym, ◌∙◌, subst}
use Rattle.std.proofs.lemmas.Bool.{true≢false}
use Rattle.sr_frame.specs.declared.ports.Port.{Port}
use Rattle.sr_laws_plant.specs.Handlings.{Handling}
use Rattle.sr_laws_plant.specs.Ledger.{PlantTurn}
use Rattle.sr_laws_plant.specs.PlantEvents.{Event, History}
use Rattle.sr_laws_plant.specs.PlantEvents as law
use Rattle.sr_node.specs.LifeChecks.{is_due}
use Rattle.sr_node.specs.Starts.{Start}
use Rattle.sr_plant.specs.declared.topology.Topology.{Topology}
use Rattle.sr_plant.specs.declared.event.PlantEvent.TheVariants.{Send, Carry, Tick}
use Rattle.sr_plant.specs.Plants.{Plant}
use Rattle.sr_plant.specs.Steps.{PlantStep}
use Rattle.sr_plant.specs.Topologies.{net_of}
use Rattle.sr_laws_plant_runs.specs.PlantRuns.{Turn, PlantRun}
use Rattle.sr_laws_plant_runs.specs.Histories.{HaveOwnAddresses, is_outlet, NumbersAs, IsTurnOf, AreTold}
use Rattle.sr_laws_plant_runs.proofs.RefusalLemmas.{never_lost}

-- a carry that is told as a loss, in no history of any run
pub no_carry_is_told_as_lost : (t : Topology) (starts : List Start) → HaveOwnAddresses starts → (before : List Turn) (u : Plant) (place : ℕ) (s : Plant) (run : PlantRun t starts (record { before = u; event = Carry place } ∷ before) s)
    (e : Event × PlantTurn) (es : History) (p : law.Plant) (story : law.PlantRun (net_of t (length starts)) (e ∷ es) p) →
    AreTold t starts (record { before = u; event = Carry place } ∷ before) s run (e ∷ es) p story → e.1.came ≡ [] → ⊥
no_carry_is_told_as_lost t starts own before u place s run e es p story told none = by run.2 told.2
  where
    by : (step : PlantStep u (Carry place) s) → IsTurnOf starts u (Carry place) s step story.0 e.1 → ⊥
    by (c, at, inl comes) pins =
        let came : e.1.came ≡ pins.0 ∷ [] = pins.2.0 in
        absurd cc
    by (c, at, inr lost) pins = never_lost t starts before u run.0 own place c at lost.0

-- a host's frame that is told as put out nowhere, or under another number
pub no_send_is_told_as_silent : (starts : List Start) (s v : Plant) (i : ℕ) (frame : List ℕ) (step : PlantStep s (Send i frame) v) (p : law.Plant) (turn : PlantTurn) → IsTurnOf starts s (Send i frame) v step p turn →
    (d : Handling) → turn.did ≡ Some d → (o : Port) → is_outlet o step.before.role.kind ≡ true → d.went o ≡ false → ⊥
no_send_is_told_as_silent starts s v i frame step p turn pins d did o side silent =
    let n : NumbersAs starts i step.before frame step.after (Some d) = subst (λ x. NumbersAs starts i step.before frame step.after x) did pins in
    true≢false (sym side ∙ sym (n.outlets o) ∙ silent)

pub no_send_is_told_under_another_number : (starts : List Start) (s v : Plant) (i : ℕ) (frame : List ℕ) (step : PlantStep s (Send i frame) v) (p : law.Plant) (turn : PlantTurn) → IsTurnOf starts s (Send i frame) v step p turn →
    (d : Handling) → turn.did ≡ Some d → step.before.core.next.0 ≢ d.frame.number % 65536 → ⊥
no_send_is_told_under_another_number starts s v i frame step p turn pins d did other =
    let n : NumbersAs starts i step.before frame step.after (Some d) = subst (λ x. NumbersAs starts i step.before frame step.after x) did pins in
    other n.shows.number

-- a life check that is told where none is due
pub no_tick_is_told_as_due : (starts : List Start) (s v : Plant) (i now : ℕ) (step : PlantStep s (Tick i now) v) (p : law.Plant) (turn : PlantTurn) → IsTurnOf starts s (Tick i now) v step p turn →
    is_due step.before.core.life_at now ≡ false → (d : Handling) → turn.did ≡ Some d → ⊥
no_tick_is_told_as_due starts s v i now step p turn pins not_due d did = by turn.did did pins
  where
    by : (x : Option Handling) → x ≡ Some d → IsTurnOf starts s (Tick i now) v step p (record turn { did = x }) → ⊥
    by None e n = absurd cc
    by (Some y) e n = true≢false (sym n.0 ∙ not_due)
