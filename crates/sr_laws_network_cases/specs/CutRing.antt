-- A run of real nodes, worked out: a ring of two nodes with a cut link, in which one sends a frame to the other.
use Rattle.std.specs.Prelude.{◌≡◌, List, [], ◌∷◌, map, Some, slice_get}
use Rattle.sr_forwarding.specs.declared.kind.RoleKind.TheVariants.{Danh}
use Rattle.sr_forwarding.specs.Parcels.{ParcelImage}
use Rattle.sr_forwarding.specs.RoleImages.{role_of}
use Rattle.sr_node.specs.declared.mode.Settings.{Settings}
use Rattle.sr_node.specs.Limits.{first_number}
use Rattle.sr_node.specs.Starts.{Start}
use Rattle.sr_plant.specs.declared.topology.Topology.TheVariants.{Ring}
use Rattle.sr_plant.specs.declared.event.PlantEvent.{PlantEvent}
use Rattle.sr_plant.specs.declared.event.PlantEvent.TheVariants.{Send, Carry, Cut}
use Rattle.sr_plant.specs.Plants.{Plant}
use Rattle.sr_laws_plant_runs.specs.Histories.{HaveOwnAddresses}
use Rattle.sr_laws_plant_runs.specs.PlantRuns.{Turn, PlantRun}
use Rattle.sr_laws_plant_runs.specs.Traffic.{IsWithinLimits}
use Rattle.sr_laws_plant_runs.specs.Unbroken.{IsFrameSent}
use Rattle.sr_laws_plant_runs.specs.WorkedRun.{address, greeting}

-- doubly attached nodes of a ring, each with its own mode and width
abbrev pub ring_of_two : Settings → Settings → List Start
ring_of_two first second =
    record { role = role_of Danh (address 1); settings = first } ∷ record { role = role_of Danh (address 2); settings = second } ∷ []

-- the link from B of the first node is cut, its host sends a frame, and the one copy that is left is carried; the newest first
abbrev pub sent_past_a_cut : List PlantEvent
sent_past_a_cut = Carry 0 ∷ Send 0 greeting ∷ Cut 0 ∷ []

-- These turns are a run with these events that meets all that the laws of rings ask for, though a copy was lost, and in which the second
-- node handed the frame up once: padded, under the first number of a node.
pub record PassesTheCut (starts : List Start) (turns : List Turn) (s : Plant) : Type 0 where
  pub events : map (λ turn. turn.event) turns ≡ sent_past_a_cut
  pub run : PlantRun Ring starts turns s
  pub own : HaveOwnAddresses starts
  pub limits : IsWithinLimits starts turns
  pub quiet : s.flight ≡ []
  pub parcel : ParcelImage
  pub up : slice_get s.handed 1 ≡ Some (parcel ∷ [])
  pub sent : IsFrameSent greeting (record { 0 = first_number }) parcel

-- there is such a run of the two, whatever their modes and widths
abbrev pub CutRingsMeetThePremises : Type 0
CutRingsMeetThePremises = (first second : Settings) → (turns : List Turn) × (s : Plant) × PassesTheCut (ring_of_two first second) turns s
