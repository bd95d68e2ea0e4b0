-- The laws of a ring with two LANs, and of two rings, over their runs, octets in to octets out.
use Rattle.std.specs.Prelude.{◌≡◌, ℕ, true, List, []}
use Rattle.sr_frame.specs.declared.ports.Port.TheVariants.{C}
use Rattle.sr_node.specs.Starts.{Start}
use Rattle.sr_laws_plant.specs.Lists.{Each}
use Rattle.sr_laws_plant.specs.PlantEvents.{History, done_in}
use Rattle.sr_laws_plant.specs.PlantEvents as law
use Rattle.sr_laws_plant.specs.Frames.{Frame}
use Rattle.sr_laws_plant.specs.LanWays.{LanPart, IsWholeChain}
use Rattle.sr_laws_plant.specs.RingLans.{Shape, RingLanRun, IsIdealOver, is_in_ring}
use Rattle.sr_laws_plant.specs.RingLans as lans
use Rattle.sr_laws_plant.specs.TwoRings.{TwoRingsRun, IsIdealOverRings}
use Rattle.sr_laws_plant.specs.TwoRings as rings
use Rattle.sr_plant.specs.declared.shapes.RingLanShape.{RingLanShape}
use Rattle.sr_plant.specs.declared.shapes.TwoRingsShape.{TwoRingsShape}
use Rattle.sr_plant.specs.declared.topology.Topology.TheVariants.{RingLan, TwoRings}
use Rattle.sr_plant.specs.Plants.{Plant}
use Rattle.sr_plant.specs.Topologies.{lan_shape, two_shape}
use Rattle.sr_laws_plant_runs.specs.PlantRuns.{Turn, PlantRun}
use Rattle.sr_laws_plant_runs.specs.Histories.{HaveOwnAddresses, IsHistoryOf}
use Rattle.sr_laws_plant_runs.specs.RunLaws.{HandsUpIdeal, HandsUpWhole, KeepsWithin}
use Rattle.sr_laws_plant_runs.specs.Traffic.{IsWithinLimits}

-- a chain of arcs and LANs, each of which is whole, leads to a node from a frame's source
abbrev pub HasWholeChain : Shape → History → Frame → ℕ → Type 0
HasWholeChain shape es f j = (parts : List LanPart) × IsWholeChain shape es f f.src parts j

-- With nothing in flight: all for which a way is whole was handed up, however often it changes between ring and LANs, and where that is
-- all, it is the ideal that each node handed up.
pub record LosesNothingToLans (s : RingLanShape) (starts : List Start) (v : Plant) (es : History) : Type 0 where
  pub up : HandsUpWhole (lans.HasWholeWay (lan_shape s) es) starts v es
  pub chains : HandsUpWhole (HasWholeChain (lan_shape s) es) starts v es
  pub all : IsIdealOver (lan_shape s) es

-- The run of a ring with two LANs has a history by the whole numbers of its frames, and by it the law holds. No frame that a node of the
-- LANs numbered is put into a LAN by a box.
pub record RingLanIsTold (s : RingLanShape) (starts : List Start) (turns : List Turn) (v : Plant)
    (goes : PlantRun (RingLan s) starts turns v) : Type 0 where
  pub history : History
  pub plant : law.Plant
  pub run : RingLanRun (lan_shape s) history plant
  pub told : IsHistoryOf (RingLan s) starts turns v goes history plant run.run
  pub ideal : HandsUpIdeal starts v history
  pub back : Each (λ d. d.went C ≡ true → is_in_ring (lan_shape s) d.frame.src ≡ true) (done_in history)
  pub within : IsWithinLimits starts turns → KeepsWithin starts history
  pub whole : IsWithinLimits starts turns → v.flight ≡ [] → LosesNothingToLans s starts v history

-- so has every such run whose nodes have addresses of their own, in whichever modes and of whichever widths
abbrev pub RingLansAreTold : Type 0
RingLansAreTold =
    (s : RingLanShape) (starts : List Start) (turns : List Turn) (v : Plant) (goes : PlantRun (RingLan s) starts turns v) →
    HaveOwnAddresses starts → RingLanIsTold s starts turns v goes

pub record LosesNothingOverJoins (s : TwoRingsShape) (starts : List Start) (v : Plant) (es : History) : Type 0 where
  pub up : HandsUpWhole (rings.HasWholeWay (two_shape s) es) starts v es
  pub all : IsIdealOverRings (two_shape s) es

-- The run of two rings has such a history too.
pub record TwoRingsIsTold (s : TwoRingsShape) (starts : List Start) (turns : List Turn) (v : Plant)
    (goes : PlantRun (TwoRings s) starts turns v) : Type 0 where
  pub history : History
  pub plant : law.Plant
  pub run : TwoRingsRun (two_shape s) history plant
  pub told : IsHistoryOf (TwoRings s) starts turns v goes history plant run.run
  pub ideal : HandsUpIdeal starts v history
  pub within : IsWithinLimits starts turns → KeepsWithin starts history
  pub whole : IsWithinLimits starts turns → v.flight ≡ [] → LosesNothingOverJoins s starts v history

abbrev pub TwoRingsAreTold : Type 0
TwoRingsAreTold =
    (s : TwoRingsShape) (starts : List Start) (turns : List Turn) (v : Plant) (goes : PlantRun (TwoRings s) starts turns v) →
    HaveOwnAddresses starts → TwoRingsIsTold s starts turns v goes
