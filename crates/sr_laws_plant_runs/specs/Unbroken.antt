-- What networks hand up in which nothing is dropped or cut: with no history in the statement.
use Rattle.std.specs.Prelude.{◌≡◌, ◌≢◌, ℕ, true, false, List, [], Some, slice_get}
use Rattle.sr_frame.specs.Frame.{padded}
use Rattle.sr_sequence.specs.declared.Seq.{Seq}
use Rattle.sr_forwarding.specs.Octets.{is_supervision}
use Rattle.sr_forwarding.specs.Parcels.{ParcelImage, plain_of}
use Rattle.sr_node.specs.Starts.{Start}
use Rattle.sr_laws_plant.specs.Lists.{One, Each}
use Rattle.sr_plant.specs.declared.topology.Topology.{Topology}
use Rattle.sr_plant.specs.declared.event.PlantEvent.{PlantEvent}
use Rattle.sr_plant.specs.declared.event.PlantEvent.TheVariants.{Send, Carry, Drop, Repeat, Cut, Mend, Tick}
use Rattle.sr_plant.specs.Copies.{Copy}
use Rattle.sr_plant.specs.Plants.{Plant}
use Rattle.sr_plant.specs.Steps.{IsLost}
use Rattle.sr_laws_plant_runs.specs.PlantRuns.{Turn, PlantRun}
use Rattle.sr_laws_plant_runs.specs.Histories.{HaveOwnAddresses}
use Rattle.sr_laws_plant_runs.specs.Sent.{IsSendOf, is_meant_for}
use Rattle.sr_laws_plant_runs.specs.Traffic.{IsWithinLimits}

-- no copy is dropped, and no link is cut
abbrev pub TakesNothingAway : PlantEvent → Type 0
TakesNothingAway (Send i frame) = Unit {0}
TakesNothingAway (Carry place) = Unit {0}
TakesNothingAway (Drop place) = ⊥
TakesNothingAway (Repeat place) = Unit {0}
TakesNothingAway (Cut link) = ⊥
TakesNothingAway (Mend link) = Unit {0}
TakesNothingAway (Tick i now) = Unit {0}

abbrev pub IsUnbroken : List Turn → Type 0
IsUnbroken turns = Each (λ turn. TakesNothingAway turn.event) turns

-- the receiver of a copy that is carried does not refuse it
abbrev pub RefusesNothing : Plant → PlantEvent → Type 0
RefusesNothing s (Send i frame) = Unit {0}
RefusesNothing s (Carry place) = (c : Copy) → slice_get s.flight place ≡ Some c → IsLost s c → ⊥
RefusesNothing s (Drop place) = Unit {0}
RefusesNothing s (Repeat place) = Unit {0}
RefusesNothing s (Cut link) = Unit {0}
RefusesNothing s (Mend link) = Unit {0}
RefusesNothing s (Tick i now) = Unit {0}

abbrev pub IsUnrefused : List Turn → Type 0
IsUnrefused turns = Each (λ turn. RefusesNothing turn.before turn.event) turns

-- the parcel is this frame, padded, under this number
abbrev pub IsFrameSent : List ℕ → Seq → ParcelImage → Type 0
IsFrameSent frame seq p = (plain_of p ≡ padded frame) × (p.seq ≡ Some seq)

-- In no run a copy is refused where it comes in: not for its octets, not for want of a number, not by a full table. So what a network loses
-- was dropped, was put on a link that is cut, or was on a link when it was cut.
abbrev pub LossesAreDropsAndCuts : Type 0
LossesAreDropsAndCuts =
    (t : Topology) (starts : List Start) (turns : List Turn) (s : Plant) → PlantRun t starts turns s → HaveOwnAddresses starts →
    IsUnrefused turns

-- In every run within the limits in which nothing is dropped or cut, and at whose end nothing is in flight: each frame that a host sent,
-- under its number, was handed up at each other node for which it is meant, supervision apart.
abbrev pub HandsUpAll : Topology → Type 0
HandsUpAll t =
    (starts : List Start) (turns : List Turn) (s : Plant) → PlantRun t starts turns s → HaveOwnAddresses starts →
    IsWithinLimits starts turns → IsUnbroken turns → s.flight ≡ [] →
    (i j : ℕ) (start : Start) (frame : List ℕ) (seq : Seq) (ps : List ParcelImage) → One (IsSendOf i frame seq) turns → i ≢ j →
    slice_get starts j ≡ Some start → slice_get s.handed j ≡ Some ps → is_meant_for start.role.mac frame ≡ true →
    is_supervision frame ≡ false → One (IsFrameSent frame seq) ps
