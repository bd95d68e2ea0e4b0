-- A run of real nodes, worked out: two LANs of two nodes, one of which sends a frame to the other.
use Rattle.std.specs.Prelude.{◌≡◌, ℕ, List, [], ◌∷◌, ◌++◌, map, Some, slice_get}
use Rattle.sr_frame.specs.declared.fields.Mac.{Mac}
use Rattle.sr_forwarding.specs.declared.kind.RoleKind.TheVariants.{Danp}
use Rattle.sr_forwarding.specs.Parcels.{ParcelImage}
use Rattle.sr_forwarding.specs.RoleImages.{role_of}
use Rattle.sr_node.specs.declared.mode.Settings.{Settings}
use Rattle.sr_node.specs.Limits.{first_number}
use Rattle.sr_node.specs.Starts.{Start}
use Rattle.sr_plant.specs.declared.topology.Topology.TheVariants.{TwinLan}
use Rattle.sr_plant.specs.declared.event.PlantEvent.{PlantEvent}
use Rattle.sr_plant.specs.declared.event.PlantEvent.TheVariants.{Send, Carry}
use Rattle.sr_plant.specs.Plants.{Plant}
use Rattle.sr_laws_plant_runs.specs.Histories.{HaveOwnAddresses}
use Rattle.sr_laws_plant_runs.specs.PlantRuns.{Turn, PlantRun}
use Rattle.sr_laws_plant_runs.specs.Traffic.{IsWithinLimits}
use Rattle.sr_laws_plant_runs.specs.Unbroken.{IsFrameSent, IsUnbroken}

-- the address 02:00:00:00:00:0n
abbrev pub address : ℕ → Mac
address n = record { 0 = 2 ∷ 0 ∷ 0 ∷ 0 ∷ 0 ∷ n ∷ [] }

-- doubly attached nodes of two LANs, each with its own mode and width
abbrev pub pair : Settings → Settings → List Start
pair first second =
    record { role = role_of Danp (address 1); settings = first } ∷ record { role = role_of Danp (address 2); settings = second } ∷ []

-- a frame from the first to the second: both addresses, the type of IPv4, and no payload
abbrev pub greeting : List ℕ
greeting = (address 2).0 ++ (address 1).0 ++ 0x08 ∷ 0x00 ∷ []

-- the first node's host sends it, and both copies are carried; the newest first
abbrev pub greeted : List PlantEvent
greeted = Carry 0 ∷ Carry 0 ∷ Send 0 greeting ∷ []

-- These turns are a run with these events that meets all that the laws of networks ask for, and in which the second node handed the
-- frame up once: padded, under the first number of a node.
pub record Greets (starts : List Start) (turns : List Turn) (s : Plant) : Type 0 where
  pub events : map (λ turn. turn.event) turns ≡ greeted
  pub run : PlantRun TwinLan starts turns s
  pub own : HaveOwnAddresses starts
  pub limits : IsWithinLimits starts turns
  pub unbroken : IsUnbroken turns
  pub quiet : s.flight ≡ []
  pub parcel : ParcelImage
  pub up : slice_get s.handed 1 ≡ Some (parcel ∷ [])
  pub sent : IsFrameSent greeting (record { 0 = first_number }) parcel

-- there is such a run of the two, whatever their modes and widths
abbrev pub PremisesAreMet : Type 0
PremisesAreMet = (first second : Settings) → (turns : List Turn) × (s : Plant) × Greets (pair first second) turns s
