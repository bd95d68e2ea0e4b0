-- What happens to a plant with an event: from one plant to the next, by cases of the event.
use Rattle.std.specs.Prelude.{◌≡◌, ℕ, ◌⊎◌, Bool, true, false, not, nat_lt, List, [], ◌++◌, length, Option, None, Some, if◌then◌else◌}
use Rattle.std.specs.Prelude.{slice_get, slice_set, slice_index_or, Result, OnOk, OnErr, IfErr}
use Rattle.std.specs.List.{filter, remove}
use Rattle.sr_forwarding.specs.declared.fault.ReadFault.{ReadFault}
use Rattle.sr_forwarding.specs.Encoding.{IsWritten, write_fault}
use Rattle.sr_node.specs.declared.event.Answer.{Answer}
use Rattle.sr_node.specs.declared.event.Event.{Event}
use Rattle.sr_node.specs.declared.event.Event.TheVariants as node
use Rattle.sr_node.specs.declared.fault.StepFault.{StepFault}
use Rattle.sr_node.specs.declared.fault.StepFault.TheVariants as fault
use Rattle.sr_node.specs.Faults.{or_no_memory}
use Rattle.sr_node.specs.Images.{State}
use Rattle.sr_node.specs.Outboxes.{boxes_empty}
use Rattle.sr_node.specs.Steps.{Step, refusal_of}
use Rattle.sr_node.specs.Octets.{OctetsArrived, OctetsRefused}
use Rattle.sr_plant.specs.declared.event.PlantEvent.{PlantEvent}
use Rattle.sr_plant.specs.declared.event.PlantEvent.TheVariants.{Send, Carry, Drop, Repeat, Cut, Mend, Tick}
use Rattle.sr_plant.specs.declared.fault.PlantFault.{PlantFault}
use Rattle.sr_plant.specs.declared.fault.PlantFault.TheVariants.{NoSuchNode, NoSuchCopy, ClockBack, Node, NoMemory}
use Rattle.sr_plant.specs.Topologies.{framing_of}
use Rattle.sr_plant.specs.Copies.{Copy, is_on, Doubles}
use Rattle.sr_plant.specs.Puts.{put_out, those_passing}
use Rattle.sr_plant.specs.Plants.{Plant, IsInOrder}

-- A node after all that waited in it was taken out.
abbrev pub emptied : State → State
emptied u = record u { core = record u.core { out = boxes_empty } }

-- The plant after node i came to this state: what it puts out is in flight behind all else, but for what is put on a cut link, and what
-- it has for its host is handed up.
abbrev pub acted : Plant → ℕ → State → ℕ → Plant
acted s i u now = record s {
  nodes = slice_set s.nodes i (emptied u);
  flight = s.flight ++ those_passing s.cut (put_out s.topology (length s.nodes) i u.core.out);
  clock = now;
  handed = slice_set s.handed i (slice_index_or s.handed i [] ++ u.core.out.h);
}

-- Node i takes an event, and the clock goes to this time.
pub record Acts (s : Plant) (i : ℕ) (event : Event) (now : ℕ) (t : Plant) : Type 0 where
  pub before : State
  pub answer : Answer
  pub after : State
  pub there : slice_get s.nodes i ≡ Some before
  pub fits : refusal_of before event ≡ None
  pub step : Step before event answer after
  pub plant : t ≡ acted s i after now

-- The plant without the copy at a place.
abbrev pub without : Plant → ℕ → Plant
without s place = record s { flight = remove s.flight place }

-- A copy that is refused for its octets, or by a full table, is lost. A full outbox and a failed allocation are no fault of the copy.
abbrev pub is_loss : StepFault → Bool
is_loss (fault.Reading f) = true
is_loss fault.Untagged = true
is_loss fault.TableFull = true
is_loss (fault.OutboxFull port) = false
is_loss fault.NoMemory = false

-- The copy comes to its receiver as the octets that the framing of its outlet writes, and is taken at the plant's time.
pub record Comes (s : Plant) (place : ℕ) (c : Copy) (t : Plant) : Type 0 where
  pub octets : List ℕ
  pub before : State
  pub answer : Answer
  pub after : State
  pub written : IsWritten (framing_of s.topology c.from c.outlet) c.parcel.form c.parcel octets
  pub there : slice_get s.nodes c.hop.to.node ≡ Some before
  pub taken : OctetsArrived (framing_of s.topology c.hop.to.node c.hop.to.port) before c.hop.to.port octets s.clock answer after
  pub plant : t ≡ acted (without s place) c.hop.to.node after s.clock

-- The receiver refuses the copy with this fault.
pub record IsRefused (s : Plant) (c : Copy) (fault : StepFault) : Type 0 where
  pub octets : List ℕ
  pub before : State
  pub written : IsWritten (framing_of s.topology c.from c.outlet) c.parcel.form c.parcel octets
  pub there : slice_get s.nodes c.hop.to.node ≡ Some before
  pub refused : OctetsRefused (framing_of s.topology c.hop.to.node c.hop.to.port) before c.hop.to.port octets s.clock fault

-- The copy is lost: its receiver refuses it, or its outlet has no octets for it.
abbrev pub IsLost : Plant → Copy → Type 0
IsLost s c =
    ((fault : StepFault) × (is_loss fault ≡ true) × IsRefused s c fault)
    ⊎ ((fault : ReadFault) × (write_fault (framing_of s.topology c.from c.outlet) c.parcel ≡ Some fault))

-- The copy at a place is carried.
abbrev pub Carried : Plant → ℕ → Plant → Type 0
Carried s place t =
    (c : Copy) × (slice_get s.flight place ≡ Some c) × (Comes s place c t ⊎ (IsLost s c × (t ≡ without s place)))

-- An event leads from one plant to the next.
abbrev pub PlantStep : Plant → PlantEvent → Plant → Type 0
PlantStep s (Send i frame) t = Acts s i (node.Send frame s.clock) s.clock t
PlantStep s (Carry place) t = Carried s place t
PlantStep s (Drop place) t = t ≡ without s place
PlantStep s (Repeat place) t = (ds : List Copy) × Doubles s.flight place ds × (t ≡ record s { flight = ds })
PlantStep s (Cut link) t =
    t ≡ record s { flight = filter (λ c. not (is_on link c)) s.flight; cut = slice_set s.cut link true }
PlantStep s (Mend link) t = t ≡ record s { cut = slice_set s.cut link false }
PlantStep s (Tick i now) t = Acts s i (node.Tick now) now t

-- The fault where the place is not below the count.
abbrev pub lacks : ℕ → ℕ → PlantFault → Option PlantFault
lacks place count fault = if nat_lt place count then None else Some fault

abbrev pub clock_fault : ℕ → ℕ → Option PlantFault
clock_fault now clock = if nat_lt now clock then Some ClockBack else None

-- Why a plant refuses an event before it allocates and asks a node.
abbrev pub plant_refusal : Plant → PlantEvent → Option PlantFault
plant_refusal s (Send i frame) = lacks i (length s.nodes) NoSuchNode
plant_refusal s (Carry place) = lacks place (length s.flight) NoSuchCopy
plant_refusal s (Drop place) = lacks place (length s.flight) NoSuchCopy
plant_refusal s (Repeat place) = lacks place (length s.flight) NoSuchCopy
plant_refusal s (Cut link) = lacks link (length s.cut) NoSuchNode
plant_refusal s (Mend link) = lacks link (length s.cut) NoSuchNode
plant_refusal s (Tick i now) = if nat_lt i (length s.nodes) then clock_fault now s.clock else Some NoSuchNode

-- Node i refuses an event, with this fault or with `NoMemory`.
abbrev pub NodeRefuses : Plant → ℕ → Event → PlantFault → Type 0
NodeRefuses s i event f =
    (before : State) × (slice_get s.nodes i ≡ Some before) × (f ≡ Node (or_no_memory (refusal_of before event)))

-- Why the event is refused after that: an allocation of the plant failed, or the node refuses the event. An event that only takes away is
-- not refused.
abbrev pub Fails : Plant → PlantEvent → PlantFault → Type 0
Fails s (Send i frame) f = (f ≡ NoMemory) ⊎ NodeRefuses s i (node.Send frame s.clock) f
Fails s (Carry place) f =
    (f ≡ NoMemory)
    ⊎ ((c : Copy) × (fault : StepFault) × (slice_get s.flight place ≡ Some c)
    × IsRefused s c fault × (is_loss fault ≡ false) × (f ≡ Node fault))
Fails s (Drop place) f = ⊥
Fails s (Repeat place) f = f ≡ NoMemory
Fails s (Cut link) f = ⊥
Fails s (Mend link) f = ⊥
Fails s (Tick i now) f = (f ≡ NoMemory) ⊎ NodeRefuses s i (node.Tick now) f

-- The plant refuses an event with this fault.
abbrev pub PlantRefuses : Plant → PlantEvent → PlantFault → Type 0
PlantRefuses s e f = (plant_refusal s e ≡ Some f) ⊎ ((plant_refusal s e ≡ None) × Fails s e f)

-- What a plant does with an event: it takes one step, and only where there is no reason to refuse the event; or it refuses the event and
-- stays as it is. Either way it is in order.
pub record PlantTakes (s : Plant) (e : PlantEvent) (result : Result (Unit {0}) PlantFault) (t : Plant) : Type 0 where
  pub step : OnOk result (PlantStep s e t)
  pub ok : OnOk result (plant_refusal s e ≡ None)
  pub err : IfErr result (λ f. PlantRefuses s e f)
  pub same : OnErr result (t ≡ s)
  pub in_order : IsInOrder t
