-- Laws over histories of nodes that threads share.
use Rattle.std.specs.Prelude.{◌≡◌, ℕ, ℤ, List, [], ◌∷◌, ◌++◌}
use Rattle.sr_frame.specs.declared.ports.Port.{Port}
use Rattle.sr_node.specs.Images.{State}
use Rattle.sr_node.specs.NodeImages.{image_state}
use Rattle.sr_node.specs.Outboxes.{box_at}
use Rattle.sr_laws_node.specs.Origins.{Origin, BeginsAs, stands_before}
use Rattle.sr_laws_node.specs.NodeRuns.{Turn, swapped, RunFrom}
use Rattle.sr_laws_node.specs.Brought.{went_after, parcels_of}
use Rattle.sr_laws_node.specs.SteadyNodes.{IsSteadyFrom}
use Rattle.sr_ports.specs.declared.entry.Entry.{Entry}
use Rattle.sr_ports.specs.declared.segment.Segment.{Segment}
use Rattle.sr_ports.specs.Histories.{Steps}
use Rattle.sr_ports.specs.Settling.{Follows, AreWhole}
use Rattle.sr_ports.specs.Parts.{entries_in}
use Rattle.sr_laws_ports.specs.Turns.{AreTurns, AreTurnsOfAll, state_behind, handed_out}

-- a history that one thread could have made has turns, whatever the numbering
abbrev pub HistoriesHaveTurns : Type 0
HistoriesHaveTurns =
    (number : ℕ → ℤ) (before : List Turn) (s t : State) (es : List Entry)
    → Steps s es t → (turns : List Turn) × AreTurns number before s es t turns

-- opening, entries and numbering have one list of turns, and lead to one state
abbrev pub HistoriesHappenOneWay : Type 0
HistoriesHappenOneWay =
    (number : ℕ → ℤ) (before : List Turn) (s t u : State) (es : List Entry) (turns others : List Turn)
    → AreTurns number before s es t turns → AreTurns number before s es u others → (t ≡ u) × (turns ≡ others)

-- on from a run they are a run
abbrev pub HistoriesAreRuns : Type 0
HistoriesAreRuns =
    (origin : Origin) (number : ℕ → ℤ) (before : List Turn) (s t : State) (es : List Entry) (turns : List Turn)
    → RunFrom origin before s → AreTurns number before s es t turns → RunFrom origin turns t

-- where a segment opens after another closed, a run goes on with one turn, in which the role is exchanged for that of its opening
abbrev pub SwapsAreTurns : Type 0
SwapsAreTurns =
    (origin : Origin) (before : List Turn) (s t : State)
    → RunFrom origin before s → Follows s t → RunFrom origin (swapped s t.role ∷ before) t

-- segments have turns, whatever the numbering
abbrev pub SegmentsHaveTurns : Type 0
SegmentsHaveTurns =
    (number : ℕ → ℤ) (g : Segment) (gs : List Segment) → ∥ ((turns : List Turn) × AreTurnsOfAll number g gs turns) ∥₁

-- segments and numbering have one list of turns
abbrev pub SegmentsHappenOneWay : Type 0
SegmentsHappenOneWay =
    (number : ℕ → ℤ) (g : Segment) (gs : List Segment) (turns others : List Turn)
    → AreTurnsOfAll number g gs turns → AreTurnsOfAll number g gs others → turns ≡ others

-- where none is torn, and the first opens with a node that begins so, new or resumed, they are a run up to the last closing
abbrev pub SegmentsAreRuns : Type 0
SegmentsAreRuns =
    (origin : Origin) (number : ℕ → ℤ) (g : Segment) (gs : List Segment) (turns : List Turn)
    → BeginsAs origin (image_state g.opening) → AreWhole (g ∷ gs) → AreTurnsOfAll number g gs turns
    → RunFrom origin turns (state_behind (image_state g.closing) gs)

-- of a steady history from a node on that begins so: what was taken at an outlet and what waits there is what went there, in order
abbrev pub EnteredOnce : Type 0
EnteredOnce =
    (origin : Origin) (number : ℕ → ℤ) (s t : State) (es : List Entry) (turns : List Turn) (o : Port)
    → BeginsAs origin s → AreTurns number [] s es t turns → IsSteadyFrom origin turns
    → handed_out o es ++ box_at t.core.out o ≡ parcels_of (went_after (stands_before origin) o turns)

-- the same of segments of which none is torn, and of which the first opens with such a node
abbrev pub EnteredOnceInAll : Type 0
EnteredOnceInAll =
    (origin : Origin) (number : ℕ → ℤ) (g : Segment) (gs : List Segment) (turns : List Turn) (o : Port)
    → BeginsAs origin (image_state g.opening) → AreWhole (g ∷ gs) → AreTurnsOfAll number g gs turns → IsSteadyFrom origin turns
    → handed_out o (entries_in (g ∷ gs)) ++ box_at (state_behind (image_state g.closing) gs).core.out o
    ≡ parcels_of (went_after (stands_before origin) o turns)
