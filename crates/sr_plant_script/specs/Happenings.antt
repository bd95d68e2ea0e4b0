-- What happens to a plant at a line, and what is printed for it.
use Rattle.std.specs.Prelude.{◌≡◌, ◌≤◌, ℕ, zero, suc, List, [], ◌++◌, length, replicate, Option, None, Some, option_map, slice_get, ◌⊎◌}
use Rattle.sr_script.specs.Texts.{refusal_line}
use Rattle.sr_plant.specs.declared.event.PlantEvent.{PlantEvent}
use Rattle.sr_plant.specs.declared.event.PlantEvent.TheVariants as event
use Rattle.sr_plant.specs.declared.fault.PlantFault.{PlantFault}
use Rattle.sr_plant.specs.Plants.{Plant}
use Rattle.sr_plant.specs.Steps.{PlantStep, PlantRefuses, plant_refusal}
use Rattle.sr_plant_script.specs.declared.command.Verb.{Verb}
use Rattle.sr_plant_script.specs.declared.command.Verb.TheVariants.{Carry, Drop, Repeat, Cut, Mend}
use Rattle.sr_plant_script.specs.Texts.{all_up_lines, fault_name, flow_line}

-- what is done to the copy at a place, or to a link, as an event of the plant
abbrev pub event_on : Verb → ℕ → PlantEvent
event_on Carry place = event.Carry place
event_on Drop place = event.Drop place
event_on Repeat place = event.Repeat place
event_on Cut link = event.Cut link
event_on Mend link = event.Mend link

-- the plant once all that was handed up is taken
abbrev pub taken_up : Plant → Plant
taken_up s = record s { handed = replicate (length s.handed) [] }

-- all that was handed up was taken
abbrev pub HasNothingUp : Plant → Type 0
HasNothingUp s = s.handed ≡ replicate (length s.handed) []

-- the node whose host may be handed something at an event: the one that acts
abbrev pub host_of : Plant → PlantEvent → Option ℕ
host_of s (event.Send node frame) = Some node
host_of s (event.Carry place) = option_map (λ c. c.hop.to.node) (slice_get s.flight place)
host_of s (event.Drop place) = None
host_of s (event.Repeat place) = None
host_of s (event.Cut link) = None
host_of s (event.Mend link) = None
host_of s (event.Tick node now) = Some node

-- the event is one step of the plant; what is handed up with it is printed, node by node, and taken
pub record IsTaken (s : Plant) (e : PlantEvent) (text : List ℕ) (t : Plant) : Type 0 where
  pub after : Plant
  pub fits : plant_refusal s e ≡ None
  pub step : PlantStep s e after
  pub told : text ≡ all_up_lines 0 after.handed
  pub left : t ≡ taken_up after

-- a refusal at the line with this number is printed, and changes nothing
pub record IsTold (s : Plant) (number : ℕ) (f : PlantFault) (text : List ℕ) (t : Plant) : Type 0 where
  pub name : List ℕ
  pub named : fault_name f ≡ Some name
  pub told : text ≡ refusal_line number name
  pub same : t ≡ s

-- the plant refuses the event
abbrev IsRefused : Plant → ℕ → PlantEvent → List ℕ → Plant → Type 0
IsRefused s number e text t = (f : PlantFault) × PlantRefuses s e f × IsTold s number f text t

-- the event of the line with this number is taken or refused
abbrev pub Happens : Plant → ℕ → PlantEvent → List ℕ → Plant → Type 0
Happens s number e text t = IsTaken s e text t ⊎ IsRefused s number e text t

-- so many carries of the first copy, one after the other
abbrev pub Carries : Plant → ℕ → List ℕ → Plant → Type 0
Carries s zero text t = (text ≡ []) × (t ≡ s)
Carries s (suc n) text t = (u : Plant) × (front last : List ℕ) × Carries s n front u × IsTaken u (event.Carry 0) last t
    × (text ≡ front ++ last)

-- the most carries of one flow (choice of this project)
abbrev pub most_carries : ℕ
most_carries = 100000

-- behind so many carries the flow is over: nothing is in flight, or they are as many as a flow has; or the plant refuses the next one
abbrev pub IsOver : Plant → ℕ → ℕ → List ℕ → Plant → Type 0
IsOver u number n text t =
    (((u.flight ≡ []) ⊎ (n ≡ most_carries)) × (text ≡ flow_line n) × (t ≡ u))
    ⊎ IsRefused u number (event.Carry 0) text t

-- the first copy is carried again and again
abbrev pub Flows : Plant → ℕ → List ℕ → Plant → Type 0
Flows s number text t = (n : ℕ) × (u : Plant) × (ups last : List ℕ) × (n ≤ most_carries) × Carries s n ups u
    × IsOver u number n last t × (text ≡ ups ++ last)
