-- The nodes of a script's plant.
use Rattle.std.specs.Prelude.{ℕ, zero, suc, List, [], ◌∷◌, ◌++◌}
use Rattle.sr_frame.specs.declared.fields.Mac.{Mac}
use Rattle.sr_forwarding.specs.RoleImages.{role_of}
use Rattle.sr_forwarding.specs.declared.kind.RoleKind.{RoleKind}
use Rattle.sr_forwarding.specs.declared.kind.RoleKind.TheVariants as kind
use Rattle.sr_node.specs.declared.mode.Settings.{Settings}
use Rattle.sr_node.specs.Images.{State, begun}
use Rattle.sr_plant.specs.declared.topology.Topology.{Topology}
use Rattle.sr_plant.specs.Topologies.{kind_of}
use Rattle.sr_plant.specs.Plants.{Plant}
use Rattle.sr_plant.specs.Building.{opening}
use Rattle.sr_plant_script.specs.declared.members.MemberRouting.{MemberRouting}
use Rattle.sr_plant_script.specs.declared.members.MemberRouting.TheVariants as member
use Rattle.sr_plant_script.specs.declared.setup.PlantSetup.{PlantSetup}

-- the address of node i is 02:00:00:00:00:XX, XX being i (locally administered; choice of this project)
abbrev pub octets_of : ℕ → List ℕ
octets_of node = 2 ∷ 0 ∷ 0 ∷ 0 ∷ 0 ∷ node ∷ []

abbrev pub mac_of : ℕ → Mac
mac_of node = record { 0 = octets_of node }

-- the kind of a node that routes so
abbrev pub routed_as : MemberRouting → RoleKind
routed_as member.Danp = kind.Danp
routed_as member.Danh = kind.Danh
routed_as (member.Prp p) = kind.Prp p.lan p.net
routed_as member.Hsr = kind.Hsr

-- a plant has nodes of this kind
abbrev pub IsMemberKind : RoleKind → Type 0
IsMemberKind kind.Danp = Unit {0}
IsMemberKind kind.Danh = Unit {0}
IsMemberKind (kind.Prp lan net) = Unit {0}
IsMemberKind kind.Hsr = Unit {0}
IsMemberKind other = ⊥

-- a new node of a plant of this topology
abbrev pub new_node : Topology → Settings → ℕ → State
new_node t settings node = begun (role_of (kind_of t node) (mac_of node)) settings

-- the first nodes, so many
abbrev pub new_nodes : Topology → Settings → ℕ → List State
new_nodes t settings zero = []
new_nodes t settings (suc n) = new_nodes t settings n ++ new_node t settings n ∷ []

-- the plant with which a script begins
abbrev pub start_of : PlantSetup → Plant
start_of setup = opening setup.topology (new_nodes setup.topology setup.settings setup.nodes)
