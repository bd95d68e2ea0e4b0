-- What goes out at each outlet, over all runs of a node.
use Rattle.std.specs.Prelude.{◌≡◌, List, ◌∷◌, ◌++◌}
use Rattle.sr_frame.specs.declared.ports.Port.{Port}
use Rattle.sr_node.specs.Images.{State}
use Rattle.sr_node.specs.Outboxes.{box_at}
use Rattle.sr_laws_node.specs.Origins.{Origin, stands_before}
use Rattle.sr_laws_node.specs.NodeRuns.{Turn, happened, swapped, RunFrom}
use Rattle.sr_laws_node.specs.Brought.{goes_in, went_after, parcels_of, takes, taken}
use Rattle.sr_laws_node.specs.SteadyNodes.{IsSteadyFrom}

-- the state in which a turn began
abbrev pub before_of : Turn → State
before_of (happened s e a n) = s
before_of (swapped s r) = s

-- in a steady run, a turn puts out at an outlet what it brings, where that is wanted there and neither anything earlier nor what stood
-- before the run bars it, behind what waits
abbrev pub EachTurn : Type 0
EachTurn =
    (origin : Origin) (turn : Turn) (before : List Turn) (t : State) (o : Port)
    → RunFrom origin (turn ∷ before) t → IsSteadyFrom origin (turn ∷ before)
    → takes o turn ++ box_at t.core.out o ≡ box_at (before_of turn).core.out o ++ parcels_of (goes_in o (stands_before origin) before turn)

-- in a steady run, what was taken at an outlet and what waits there is what went there, in order
abbrev pub EachOnce : Type 0
EachOnce =
    (origin : Origin) (turns : List Turn) (t : State) (o : Port)
    → RunFrom origin turns t → IsSteadyFrom origin turns
    → taken o turns ++ box_at t.core.out o ≡ parcels_of (went_after (stands_before origin) o turns)
