-- No frame of a PRP network goes back into it, in the words of the run.
use Rattle.std.specs.Prelude.{◌≡◌, ◌⊎◌, ℕ, ◌<◌, List, [], ◌∷◌}
use Rattle.std.proofs.Common.{inl, inr}
use Rattle.sr_forwarding.specs.Octets.{src_in}
use Rattle.sr_forwarding.specs.Parcels.{ParcelImage, plain_of}
use Rattle.sr_node.specs.Starts.{Start}
use Rattle.sr_laws_plant.specs.Lists.{Each}
use Rattle.sr_plant.specs.declared.shapes.RingLanShape.{RingLanShape}
use Rattle.sr_plant.specs.declared.topology.Topology.TheVariants.{RingLan}
use Rattle.sr_plant.specs.declared.event.PlantEvent.{PlantEvent}
use Rattle.sr_plant.specs.declared.event.PlantEvent.TheVariants.{Send, Carry, Drop, Repeat, Cut, Mend, Tick}
use Rattle.sr_plant.specs.Copies.{Copy}
use Rattle.sr_plant.specs.Plants.{Plant}
use Rattle.sr_plant.specs.Steps.{Comes, IsLost, without, PlantStep}
use Rattle.sr_laws_plant_runs.specs.Histories.{mac_at, HaveOwnAddresses}
use Rattle.sr_laws_plant_runs.specs.PlantRuns.{Turn, PlantRun}

-- what the receiver of a copy put out at its interlink; it put nothing out where it refused the copy
abbrev pub carried_over : (s : Plant) (place : ℕ) (v : Plant) (c : Copy) → Comes s place c v ⊎ (IsLost s c × (v ≡ without s place)) →
    List ParcelImage
carried_over s place v c (inl comes) = comes.after.core.out.c
carried_over s place v c (inr lost) = []

-- what the node that took an event put out at its interlink
abbrev pub put_over : (s : Plant) (e : PlantEvent) (v : Plant) → PlantStep s e v → List ParcelImage
put_over s (Send i frame) v acts = acts.after.core.out.c
put_over s (Carry place) v step = carried_over s place v step.0 step.2
put_over s (Drop place) v step = []
put_over s (Repeat place) v step = []
put_over s (Cut link) v step = []
put_over s (Mend link) v step = []
put_over s (Tick i now) v acts = acts.after.core.out.c

-- the source is a node of the ring, so none of the LANs: addresses are apart
abbrev pub IsOfRing : RingLanShape → List Start → ParcelImage → Type 0
IsOfRing s starts p = (k : ℕ) × (k < s.ring) × (src_in (plain_of p) ≡ mac_at starts k)

-- of each event of a run
abbrev pub NonePutBack : (s : RingLanShape) (starts : List Start) (turns : List Turn) (v : Plant) →
    PlantRun (RingLan s) starts turns v → Type 0
NonePutBack s starts [] v run = Unit {0}
NonePutBack s starts (turn ∷ before) v run =
    NonePutBack s starts before turn.before run.0 × Each (IsOfRing s starts) (put_over turn.before turn.event v run.2)

-- In every run of a ring with two LANs, whatever a RedBox puts into a LAN was numbered by a node of the ring, the box itself among them.
abbrev pub NoneGoesBackInto : Type 0
NoneGoesBackInto =
    (s : RingLanShape) (starts : List Start) (turns : List Turn) (v : Plant) (run : PlantRun (RingLan s) starts turns v) →
    HaveOwnAddresses starts → NonePutBack s starts turns v run
