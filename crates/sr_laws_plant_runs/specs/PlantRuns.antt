-- Runs of a plant from its start. Newest first, so that what came before a turn is the rest of the list.
use Rattle.std.specs.Prelude.{◌≡◌, true, List, [], ◌∷◌, length, map, None}
use Rattle.sr_node.specs.Starts.{Start, begun_as}
use Rattle.sr_laws_plant.specs.Lists.{Each}
use Rattle.sr_plant.specs.declared.topology.Topology.{Topology}
use Rattle.sr_plant.specs.declared.event.PlantEvent.{PlantEvent}
use Rattle.sr_plant.specs.Plants.{Plant}
use Rattle.sr_plant.specs.Building.{is_plant, opening}
use Rattle.sr_plant.specs.Steps.{PlantStep, plant_refusal}

-- an event that the plant took, and the plant before it
pub record Turn : Type 0 where
  pub before : Plant
  pub event : PlantEvent

-- The turns lead from a new plant of new nodes that begin so to this one, none of the events refused. What is refused changes nothing, and
-- is no turn.
abbrev pub PlantRun : Topology → List Start → List Turn → Plant → Type 0
PlantRun t starts [] s = (is_plant t (map begun_as starts) ≡ true) × (s ≡ opening t (map begun_as starts))
PlantRun t starts (turn ∷ before) s =
    PlantRun t starts before turn.before × (plant_refusal turn.before turn.event ≡ None) × PlantStep turn.before turn.event s

-- each node's address has six octets
abbrev pub HaveAddresses : List Start → Type 0
HaveAddresses starts = Each (λ r. length r.role.mac.0 ≡ 6) starts
