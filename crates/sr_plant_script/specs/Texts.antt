-- What is printed of a plant.
use Rattle.std.specs.Prelude.{ℕ, ◌+◌, List, [], ◌∷◌, ◌++◌, codes, Option, None, Some}
use Rattle.std.specs.Fmt.{decimal}
use Rattle.hex.specs.Hex.{encode_lower}
use Rattle.sr_forwarding.specs.Parcels.{ParcelImage, plain_of}
use Rattle.sr_script.specs.Texts.{printed, name_of}
use Rattle.sr_plant.specs.declared.fault.PlantFault.{PlantFault}
use Rattle.sr_plant.specs.declared.fault.PlantFault.TheVariants.{NoSuchNode, NoSuchCopy, ClockBack, Node, BadPlant, NoMemory}

-- a frame that a node hands up, in lower case
abbrev pub up_line : ℕ → List ℕ → List ℕ
up_line node octets = printed (codes "up" ∷ decimal node ∷ encode_lower octets ∷ [])

-- what a node hands up, in order, each in plain form
abbrev pub up_lines : ℕ → List ParcelImage → List ℕ
up_lines node [] = []
up_lines node (p ∷ ps) = up_line node (plain_of p) ++ up_lines node ps

-- what each node hands up, from this node on
abbrev pub all_up_lines : ℕ → List (List ParcelImage) → List ℕ
all_up_lines node [] = []
all_up_lines node (h ∷ hs) = up_lines node h ++ all_up_lines (node + 1) hs

-- the line behind a flow of so many carries
abbrev pub flow_line : ℕ → List ℕ
flow_line carries = printed (codes "flow" ∷ decimal carries ∷ [])

-- the line at the end
abbrev pub flight_line : ℕ → List ℕ
flight_line copies = printed (codes "flight" ∷ decimal copies ∷ [])

-- what a refusal is called; an allocation that failed is none
abbrev pub fault_name : PlantFault → Option (List ℕ)
fault_name NoSuchNode = Some (codes "NoSuchNode")
fault_name NoSuchCopy = Some (codes "NoSuchCopy")
fault_name ClockBack = Some (codes "ClockBack")
fault_name (Node fault) = name_of fault
fault_name BadPlant = Some (codes "BadPlant")
fault_name NoMemory = None
