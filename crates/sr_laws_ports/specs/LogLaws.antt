-- Laws over what workers at a shared node wrote down.
use Rattle.std.specs.Prelude.{◌≡◌, ℕ, ℤ, List, [], ◌∷◌, ◌++◌}
use Rattle.sr_frame.specs.declared.ports.Port.{Port}
use Rattle.sr_node.specs.Images.{State}
use Rattle.sr_node.specs.Outboxes.{box_at}
use Rattle.sr_node.specs.declared.event.Event.{Event}
use Rattle.sr_node.specs.declared.event.Answer.{Answer}
use Rattle.sr_laws_node.specs.Origins.{Origin, BeginsAs, stands_before}
use Rattle.sr_laws_node.specs.NodeRuns.{Turn}
use Rattle.sr_laws_node.specs.Brought.{went_after, parcels_of}
use Rattle.sr_laws_node.specs.SteadyNodes.{IsSteadyFrom}
use Rattle.sr_ports.specs.declared.entry.Entry.{Entry}
use Rattle.sr_ports.specs.declared.log.Log.{Log}
use Rattle.sr_ports.specs.declared.settling.Settlement.TheVariants.{Settled}
use Rattle.sr_ports.specs.declared.worker.Worker.{Worker}
use Rattle.sr_ports.specs.Parts.{logs_of}
use Rattle.sr_ports.specs.Settling.{IsSettlement}
use Rattle.sr_laws_ports.specs.Turns.{AreTurns}
use Rattle.sr_workers.specs.Work.{AreOwn, ServesPort, parcels_in}

-- what the first of these logs has, and nothing where there is none
abbrev pub pairs_in_first : List Log → List (Event × Answer)
pairs_in_first [] = []
pairs_in_first (l ∷ ls) = l.pairs.items

-- what a worker wrote down
abbrev pub written_by : Worker → List Log → List (Event × Answer)
written_by w ls = pairs_in_first (logs_of w ls)

-- of a steady history from a node on that begins so, new or resumed, which the logs settle: what the worker of a port took out and what
-- waits there is what went there, in order
abbrev pub LoggedOnce : Type 0
LoggedOnce =
    (origin : Origin) (number : ℕ → ℤ) (s t : State) (es : List Entry) (ls : List Log) (turns : List Turn) (w : Worker) (o : Port)
    → BeginsAs origin s → AreTurns number [] s es t turns → IsSteadyFrom origin turns
    → IsSettlement es ls Settled → ((v : Worker) → AreOwn v (written_by v ls)) → ServesPort w o
    → parcels_in (written_by w ls) ++ box_at t.core.out o ≡ parcels_of (went_after (stands_before origin) o turns)
