-- A copy on its way into its receiver.
use Rattle.std.specs.Prelude.{◌≡◌, ◌⊎◌, ℕ, true, false, List, Option, None, Some, slice_get}
use Rattle.sr_forwarding.specs.declared.fault.ReadFault.{ReadFault}
use Rattle.sr_forwarding.specs.Encoding.{IsWritten, write_fault}
use Rattle.sr_forwarding.specs.Framings.{FramingImage}
use Rattle.sr_forwarding.specs.Parcels.{ParcelImage}
use Rattle.sr_frame.specs.declared.ports.Port.{Port}
use Rattle.sr_node.specs.declared.event.Answer.{Answer}
use Rattle.sr_node.specs.declared.fault.StepFault.{StepFault}
use Rattle.sr_node.specs.Images.{State}
use Rattle.sr_node.specs.Octets.{OctetsArrived, OctetsRefused}
use Rattle.sr_plant.specs.declared.topology.Topology.{Topology}
use Rattle.sr_plant.specs.declared.fault.PlantFault.{PlantFault}
use Rattle.sr_plant.specs.declared.fault.PlantFault.TheVariants.{Node, NoMemory}
use Rattle.sr_plant.specs.declared.node_step.Given.{Given}
use Rattle.sr_plant.specs.declared.arriving.Arriving.{Arriving}
use Rattle.sr_plant.specs.declared.arriving.Landing.{Landing}
use Rattle.sr_plant.specs.declared.arriving.Landing.TheVariants.{Lost, Taken}
use Rattle.sr_plant.specs.Topologies.{framing_of}
use Rattle.sr_plant.specs.Copies.{Copy}
use Rattle.sr_plant.specs.Given.{GivesOut}
use Rattle.sr_plant.specs.Steps.{is_loss}

-- A copy comes to its receiver as these octets, at this port of this node.
pub record IsHeaded (t : Topology) (c : Copy) (a : Arriving) : Type 0 where
  pub node : a.node ≡ c.hop.to.node
  pub port : a.port ≡ c.hop.to.port
  pub written : IsWritten (framing_of t c.from c.outlet) c.parcel.form c.parcel a.octets

-- A copy comes to its receiver like this, or not at all where its outlet has no octets for it.
abbrev pub ComesAs : Topology → Copy → Option Arriving → Type 0
ComesAs t c None = (fault : ReadFault) × (write_fault (framing_of t c.from c.outlet) c.parcel ≡ Some fault)
ComesAs t c (Some a) = IsHeaded t c a

-- The copy at a place comes to its receiver like this.
abbrev pub OneComesAs : Topology → List Copy → ℕ → Option Arriving → Type 0
OneComesAs t cs place a = (c : Copy) × (slice_get cs place ≡ Some c) × ComesAs t c a

-- A node takes octets at a port with this framing, and is emptied.
pub record TakesOut (framing : FramingImage) (s : State) (port : Port) (octets : List ℕ) (now : ℕ) (given : Given)
    (before up_after : List ParcelImage) (u : State) : Type 0 where
  pub answer : Answer
  pub after : State
  pub taken : OctetsArrived framing s port octets now answer after
  pub gives : GivesOut after given before up_after u

-- A node refuses octets, which are lost, and stays as it is.
pub record LosesThem (framing : FramingImage) (s : State) (port : Port) (octets : List ℕ) (now : ℕ) (before up_after : List ParcelImage)
    (u : State) : Type 0 where
  pub fault : StepFault
  pub refused : OctetsRefused framing s port octets now fault
  pub loss : is_loss fault ≡ true
  pub same : u ≡ s
  pub up : up_after ≡ before

-- What becomes of octets at a node: they are lost, or the node takes them.
abbrev pub Lands : FramingImage → State → Port → List ℕ → ℕ → Landing → List ParcelImage → List ParcelImage → State → Type 0
Lands framing s port octets now Lost before up_after u = LosesThem framing s port octets now before up_after u
Lands framing s port octets now (Taken given) before up_after u = TakesOut framing s port octets now given before up_after u

-- Why octets can't come to a node: an allocation failed, or the node refuses them with a fault that is not the copy's.
abbrev pub FailsToLand : FramingImage → State → Port → List ℕ → ℕ → PlantFault → Type 0
FailsToLand framing s port octets now f =
    (f ≡ NoMemory)
    ⊎ ((fault : StepFault) × OctetsRefused framing s port octets now fault × (is_loss fault ≡ false) × (f ≡ Node fault))
