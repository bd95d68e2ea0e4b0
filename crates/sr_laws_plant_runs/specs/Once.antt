-- No frame that a host sent is handed up twice, in the words of the run.
use Rattle.std.specs.Prelude.{◌≡◌, ◌≢◌, ℕ, ◌⊎◌, true, false, List, [], ◌∷◌, Some, slice_get}
use Rattle.sr_sequence.specs.declared.Seq.{Seq}
use Rattle.sr_forwarding.specs.Octets.{is_supervision}
use Rattle.sr_forwarding.specs.Parcels.{ParcelImage}
use Rattle.sr_node.specs.Starts.{Start}
use Rattle.sr_laws_plant.specs.Lists.{One, Each}
use Rattle.sr_plant.specs.declared.topology.Topology.{Topology}
use Rattle.sr_plant.specs.Plants.{Plant}
use Rattle.sr_laws_plant_runs.specs.PlantRuns.{Turn, PlantRun}
use Rattle.sr_laws_plant_runs.specs.Histories.{HaveOwnAddresses, Zip}
use Rattle.sr_laws_plant_runs.specs.Sent.{IsSendOf, IsSentByOther, is_meant_for}
use Rattle.sr_laws_plant_runs.specs.Traffic.{count_of, numberings, IsWithinLimits}
use Rattle.sr_laws_plant_runs.specs.Unbroken.{IsFrameSent, IsUnbroken}

-- a node, and how many frames it had numbered before
pub record HostSend : Type 0 where
  pub node : ℕ
  pub before : ℕ

-- the host of the node sent this frame, which took this number, when the node had numbered so many
abbrev pub WasSent : HostSend → List ℕ → Seq → List Turn → Type 0
WasSent w frame seq [] = ⊥
WasSent w frame seq (turn ∷ turns) =
    (IsSendOf w.node frame seq turn × (count_of w.node (numberings turns) ≡ w.before)) ⊎ WasSent w frame seq turns

-- the parcel is what was sent then, padded, under its number
pub record IsOfSend (turns : List Turn) (p : ParcelImage) (w : HostSend) : Type 0 where
  pub frame : List ℕ
  pub seq : Seq
  pub sent : WasSent w frame seq turns
  pub is : IsFrameSent frame seq p

abbrev pub AreUnlike : List HostSend → Type 0
AreUnlike [] = Unit {0}
AreUnlike (w ∷ ws) = Each (λ v. v ≢ w) ws × AreUnlike ws

-- In every run within the limits, whatever is lost, repeated or cut: each parcel that a node handed up is of one send of a host, and no two
-- are of one send.
abbrev pub HandsUpOnce : Topology → Type 0
HandsUpOnce t =
    (starts : List Start) (turns : List Turn) (s : Plant) → PlantRun t starts turns s → HaveOwnAddresses starts →
    IsWithinLimits starts turns → (j : ℕ) (ps : List ParcelImage) → slice_get s.handed j ≡ Some ps →
    (ws : List HostSend) × Zip (IsOfSend turns) ps ws × AreUnlike ws

-- Where nothing is dropped or cut besides, and nothing is in flight: each frame that a host sent is handed up exactly once at each other
-- node for which it is meant, supervision apart, and nothing else is: each parcel is what the host of another node sent to this one or to
-- a group.
abbrev pub HandsUpEachOnce : Topology → Type 0
HandsUpEachOnce t =
    (starts : List Start) (turns : List Turn) (s : Plant) → PlantRun t starts turns s → HaveOwnAddresses starts →
    IsWithinLimits starts turns → IsUnbroken turns → s.flight ≡ [] →
    (j : ℕ) (start : Start) (ps : List ParcelImage) → slice_get starts j ≡ Some start → slice_get s.handed j ≡ Some ps →
    (ws : List HostSend) × Zip (IsOfSend turns) ps ws × AreUnlike ws × Each (IsSentByOther j start.role.mac turns) ps
    × ((w : HostSend) (frame : List ℕ) (seq : Seq) → WasSent w frame seq turns → w.node ≢ j → is_meant_for start.role.mac frame ≡ true →
    is_supervision frame ≡ false → One (λ v. v ≡ w) ws)
