-- The history of a run: there is no other.
use Rattle.std.specs.Prelude.{◌≡◌, List, length}
use Rattle.sr_node.specs.Starts.{Start}
use Rattle.sr_laws_plant.specs.PlantEvents.{History}
use Rattle.sr_laws_plant.specs.PlantEvents as law
use Rattle.sr_plant.specs.declared.topology.Topology.{Topology}
use Rattle.sr_plant.specs.Plants.{Plant}
use Rattle.sr_plant.specs.Topologies.{net_of}
use Rattle.sr_laws_plant_runs.specs.PlantRuns.{Turn, PlantRun}
use Rattle.sr_laws_plant_runs.specs.Histories.{IsHistoryOf}

-- Two histories of one run are equal: the same number of each frame, the same copies lost, the same copies in flight at the end.
abbrev pub HaveOneHistory : Type 0
HaveOneHistory =
    (t : Topology) (starts : List Start) (turns : List Turn) (s : Plant) (run : PlantRun t starts turns s) (one other : History)
    (p q : law.Plant) (story : law.PlantRun (net_of t (length starts)) one p) (retold : law.PlantRun (net_of t (length starts)) other q) →
    IsHistoryOf t starts turns s run one p story → IsHistoryOf t starts turns s run other q retold → (one ≡ other) × (p ≡ q)
