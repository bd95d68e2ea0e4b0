-- All that waits at an outlet, or at all of them, is taken out.
use Rattle.std.specs.Prelude.{◌≡◌, pos, List, [], ◌∷◌, ◌++◌, Some, if◌then◌else◌}
use Rattle.sr_frame.specs.declared.ports.Port.{Port}
use Rattle.sr_frame.specs.declared.ports.Port.TheVariants.{H, A, B, C}
use Rattle.sr_forwarding.specs.Parcels.{ParcelImage}
use Rattle.sr_node.specs.declared.event.Event.TheVariants as event
use Rattle.sr_node.specs.declared.event.Answer.TheVariants as answer
use Rattle.sr_node.specs.Images.{State}
use Rattle.sr_node.specs.Outboxes.{box_at, boxes_empty, boxes_left}
use Rattle.sr_node.specs.PerPort.{with_at}
use Rattle.sr_laws_node.specs.Origins.{Origin}
use Rattle.sr_laws_node.specs.NodeRuns.{Turn, happened, RunFrom}
use Rattle.sr_laws_node.specs.Brought.{is_at, taken}

-- the node without the first parcel that waits at an outlet, and without all of them
abbrev pub without_first : State → Port → State
without_first s port = record s { core = record s.core { out = boxes_left s.core.out port } }

abbrev pub emptied_at : State → Port → State
emptied_at s port = record s { core = record s.core { out = with_at s.core.out port [] } }

-- the node without all that waits anywhere
abbrev pub emptied_everywhere : State → State
emptied_everywhere s = record s { core = record s.core { out = boxes_empty } }

-- these parcels, which wait at an outlet, are taken out one by one
abbrev pub takes_all : State → Port → List ParcelImage → List Turn → List Turn
takes_all s port [] turns = turns
takes_all s port (p ∷ ps) turns =
    takes_all (without_first s port) port ps (happened s (event.Take port) (answer.Taken (Some p)) (pos 0) ∷ turns)

-- all that waits is taken out, outlet by outlet in the order H, A, B, C
abbrev pub takes_everywhere : State → List Turn → List Turn
takes_everywhere s turns =
    takes_all (emptied_at (emptied_at (emptied_at s H) A) B) C (box_at s.core.out C)
    (takes_all (emptied_at (emptied_at s H) A) B (box_at s.core.out B)
    (takes_all (emptied_at s H) A (box_at s.core.out A) (takes_all s H (box_at s.core.out H) turns)))

-- these are turns of a run
abbrev pub EmptiesOutlets : Type 0
EmptiesOutlets =
    (origin : Origin) (turns : List Turn) (s : State) (port : Port) → RunFrom origin turns s →
    RunFrom origin (takes_all s port (box_at s.core.out port) turns) (emptied_at s port)

abbrev pub EmptiesNodes : Type 0
EmptiesNodes =
    (origin : Origin) (turns : List Turn) (s : State) → RunFrom origin turns s →
    RunFrom origin (takes_everywhere s turns) (emptied_everywhere s)

-- what was taken out at an outlet grows by them
abbrev pub TakesWhatWaits : Type 0
TakesWhatWaits =
    (o : Port) (s : State) (port : Port) (ps : List ParcelImage) (turns : List Turn) →
    taken o (takes_all s port ps turns) ≡ taken o turns ++ (if is_at o port then ps else [])
