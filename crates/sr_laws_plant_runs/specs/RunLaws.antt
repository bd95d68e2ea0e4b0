-- The laws of rings and of two LANs over their runs, octets in to octets out.
use Rattle.std.specs.Prelude.{◌≡◌, ℕ, List, [], length, Some, slice_get}
use Rattle.sr_forwarding.specs.Parcels.{ParcelImage}
use Rattle.sr_node.specs.Starts.{Start}
use Rattle.sr_laws_plant.specs.Frames.{Frame}
use Rattle.sr_laws_plant.specs.Ideal.{IsIdeal, AreOnce}
use Rattle.sr_laws_plant.specs.LanLaws.{LanRun, HasWholeCopy, CopiesBring, IsIdealAcross}
use Rattle.sr_laws_plant.specs.Lists.{One, Each}
use Rattle.sr_laws_plant.specs.PlantEvents.{History, done_in}
use Rattle.sr_laws_plant.specs.PlantEvents as law
use Rattle.sr_laws_plant.specs.RingLaws.{RingRun, HasWholeArc, ArcsBring, IsIdealRound}
use Rattle.sr_laws_plant.specs.Steadiness.{AllSteady}
use Rattle.sr_plant.specs.declared.topology.Topology.TheVariants.{Ring, TwinLan}
use Rattle.sr_plant.specs.Plants.{Plant}
use Rattle.sr_laws_plant_runs.specs.PlantRuns.{Turn, PlantRun}
use Rattle.sr_laws_plant_runs.specs.Histories.{mac_at, HaveOwnAddresses, ParcelShows, IsHistoryOf}
use Rattle.sr_laws_plant_runs.specs.TableWidths.{widths_of}
use Rattle.sr_laws_plant_runs.specs.Traffic.{IsWithinLimits}

-- each parcel that a node handed up shows a frame that is ideal for it
abbrev pub HandsUpIdeal : List Start → Plant → History → Type 0
HandsUpIdeal starts s es =
    (j : ℕ) (ps : List ParcelImage) → slice_get s.handed j ≡ Some ps →
    Each (λ p. (f : Frame) × IsIdeal j f (done_in es) × ParcelShows starts p f) ps

-- each frame that is ideal for a node, and for which a path is whole, is shown by a parcel that the node handed up
abbrev pub HandsUpWhole : (Frame → ℕ → Type 0) → List Start → Plant → History → Type 0
HandsUpWhole HasWhole starts s es =
    (j : ℕ) (ps : List ParcelImage) → slice_get s.handed j ≡ Some ps →
    (f : Frame) → IsIdeal j f (done_in es) → HasWhole f j → One (λ p. ParcelShows starts p f) ps

-- What holds where the traffic is within the limits: the run of each node is steady, with a number to spare, and no two frames that a node
-- handed up are of one source and number.
pub record KeepsWithin (starts : List Start) (es : History) : Type 0 where
  pub steady : AllSteady (widths_of starts) (mac_at starts) (done_in es)
  pub once : AreOnce es

-- What holds besides with nothing in flight, in a ring: all for which an arc is whole was handed up, and where that is all, it is the ideal
-- that each node handed up. From whichever node has a frame at the first link, a whole arc brings it to its end.
pub record LosesNothingInRing (starts : List Start) (s : Plant) (es : History) : Type 0 where
  pub up : HandsUpWhole (HasWholeArc (length starts) es) starts s es
  pub all : IsIdealRound (length starts) es
  pub arcs : ArcsBring (length starts) es

-- The run of a ring has a history by the whole numbers of its frames, and by it the law holds.
pub record RingIsTold (starts : List Start) (turns : List Turn) (s : Plant) (goes : PlantRun Ring starts turns s) : Type 0 where
  pub history : History
  pub plant : law.Plant
  pub run : RingRun (length starts) history plant
  pub told : IsHistoryOf Ring starts turns s goes history plant run.run
  pub ideal : HandsUpIdeal starts s history
  pub within : IsWithinLimits starts turns → KeepsWithin starts history
  pub whole : IsWithinLimits starts turns → s.flight ≡ [] → LosesNothingInRing starts s history

-- so has every run of a ring whose nodes have addresses of their own
abbrev pub RingsAreTold : Type 0
RingsAreTold =
    (starts : List Start) (turns : List Turn) (s : Plant) (goes : PlantRun Ring starts turns s) → HaveOwnAddresses starts →
    RingIsTold starts turns s goes

-- In two LANs a frame is whole for a node where not all copies for it were lost in both LANs together.
pub record LosesNothingInLans (starts : List Start) (s : Plant) (es : History) : Type 0 where
  pub up : HandsUpWhole (HasWholeCopy (length starts) es) starts s es
  pub all : IsIdealAcross (length starts) es
  pub copies : CopiesBring (length starts) es

-- The run of two LANs has such a history too.
pub record LansAreTold (starts : List Start) (turns : List Turn) (s : Plant) (goes : PlantRun TwinLan starts turns s) : Type 0 where
  pub history : History
  pub plant : law.Plant
  pub run : LanRun (length starts) history plant
  pub told : IsHistoryOf TwinLan starts turns s goes history plant run.run
  pub ideal : HandsUpIdeal starts s history
  pub within : IsWithinLimits starts turns → KeepsWithin starts history
  pub whole : IsWithinLimits starts turns → s.flight ≡ [] → LosesNothingInLans starts s history

abbrev pub TwinLansAreTold : Type 0
TwinLansAreTold =
    (starts : List Start) (turns : List Turn) (s : Plant) (goes : PlantRun TwinLan starts turns s) → HaveOwnAddresses starts →
    LansAreTold starts turns s goes
