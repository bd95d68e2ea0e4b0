-- What hosts sent, and what others hand up of it.
use Rattle.std.specs.Prelude.{◌≡◌, ◌≢◌, ℕ, Bool, true, false, ◌||◌, List, Some, slice_get}
use Rattle.sr_frame.specs.declared.fields.Mac.{Mac}
use Rattle.sr_frame.specs.Addresses.{mac_eq}
use Rattle.sr_frame.specs.Frame.{padded}
use Rattle.sr_sequence.specs.declared.Seq.{Seq}
use Rattle.sr_forwarding.specs.Octets.{dst_in, is_supervision}
use Rattle.sr_forwarding.specs.Parcels.{ParcelImage, plain_of}
use Rattle.sr_forwarding.specs.RoleImages.{is_group}
use Rattle.sr_node.specs.Images.{State}
use Rattle.sr_node.specs.Starts.{Start}
use Rattle.sr_laws_plant.specs.Lists.{One, Each}
use Rattle.sr_plant.specs.declared.topology.Topology.{Topology}
use Rattle.sr_plant.specs.declared.topology.Topology.TheVariants.{Ring, TwinLan, RingLan, TwoRings}
use Rattle.sr_plant.specs.declared.event.PlantEvent.TheVariants.{Send}
use Rattle.sr_plant.specs.Plants.{Plant}
use Rattle.sr_laws_plant_runs.specs.Histories.{HaveOwnAddresses}
use Rattle.sr_laws_plant_runs.specs.PlantRuns.{Turn, PlantRun, HaveAddresses}

-- the host of this node sent this frame, which took this number
pub record IsSendOf (node : ℕ) (frame : List ℕ) (seq : Seq) (turn : Turn) : Type 0 where
  pub sender : State
  pub event : turn.event ≡ Send node frame
  pub there : slice_get turn.before.nodes node ≡ Some sender
  pub number : sender.core.next ≡ seq

-- the frame is for a node with this address, alone or among others of a group
abbrev pub is_meant_for : Mac → List ℕ → Bool
is_meant_for mac frame = mac_eq (dst_in frame) mac || is_group (dst_in frame)

-- A parcel that node j, of this address, may hand up: the frame that the host of another node sent to j or to a group, padded, under its
-- number. Supervision is none of it. (What a network without paths and copies would hand up; choice of this project.)
pub record IsSentByOther (j : ℕ) (mac : Mac) (turns : List Turn) (p : ParcelImage) : Type 0 where
  pub node : ℕ
  pub frame : List ℕ
  pub seq : Seq
  pub other : node ≢ j
  pub sent : One (IsSendOf node frame seq) turns
  pub for : is_meant_for mac frame ≡ true
  pub host : is_supervision frame ≡ false
  pub plain : plain_of p ≡ padded frame
  pub number : p.seq ≡ Some seq

-- Each address has six octets; where there are RedBoxes, none is a group's. (A RedBox takes what is for its own address before it looks
-- whether that is supervision.)
abbrev pub HaveAddressesIn : Topology → List Start → Type 0
HaveAddressesIn Ring starts = HaveAddresses starts
HaveAddressesIn TwinLan starts = HaveAddresses starts
HaveAddressesIn (RingLan s) starts = HaveOwnAddresses starts
HaveAddressesIn (TwoRings s) starts = HaveOwnAddresses starts

-- in every run of a plant
abbrev pub HandsUpWhatOthersSent : Type 0
HandsUpWhatOthersSent =
    (t : Topology) (starts : List Start) (turns : List Turn) (s : Plant) (j : ℕ) (start : Start) (ps : List ParcelImage) →
    PlantRun t starts turns s → HaveAddressesIn t starts → slice_get starts j ≡ Some start → slice_get s.handed j ≡ Some ps →
    Each (IsSentByOther j start.role.mac turns) ps
