-- A plant as one value.
use Rattle.std.specs.Prelude.{List, map}
use Rattle.sr_forwarding.specs.declared.role_image.RoleImage.{RoleImage}
use Rattle.sr_node.specs.declared.node.NodeOf.{NodeOf}
use Rattle.sr_node.specs.Images.{State}
use Rattle.sr_node.specs.States.{state_of}
use Rattle.sr_plant.specs.declared.plant.PlantOf.{PlantOf}
use Rattle.sr_plant.specs.Plants.{Plant, plant_of}

-- The states of nodes, where `meaning` gives the image of each role.
abbrev pub states_of : {R : Type 0} → (R → RoleImage) → List (NodeOf R) → List State
states_of meaning ns = map (state_of meaning) ns

-- A plant as data, where `meaning` gives the image of each role.
abbrev pub plant_state : {R : Type 0} → (R → RoleImage) → PlantOf R → Plant
plant_state meaning p = plant_of p.topology (states_of meaning p.nodes.items) p.traffic (map (λ h. h.items) p.handed.items)
