-- Frames that hosts of a plant send.
use Rattle.std.specs.Prelude.{ℕ, Bool, true, nat_lt, ◌&&◌, List, [], ◌∷◌, ◌++◌, Option, None, Some, if◌then◌else◌}
use Rattle.sr_forwarding.specs.declared.fault.ReadFault.TheVariants as read
use Rattle.sr_node.specs.declared.fault.StepFault.TheVariants as fault
use Rattle.sr_plant.specs.declared.fault.PlantFault.{PlantFault}
use Rattle.sr_plant.specs.declared.fault.PlantFault.TheVariants as plant
use Rattle.sr_plant_script.specs.declared.command.Receiver.{Receiver}
use Rattle.sr_plant_script.specs.declared.command.Receiver.TheVariants.{All, Node}
use Rattle.sr_plant_script.specs.Members.{octets_of}

-- the most octets behind addresses and type: those of a frame of Ethernet of 1518 octets
abbrev pub most_payload : ℕ
most_payload = 1504

-- the address of a receiver
abbrev pub receiver_address : Receiver → List ℕ
receiver_address All = 255 ∷ 255 ∷ 255 ∷ 255 ∷ 255 ∷ 255 ∷ []
receiver_address (Node node) = octets_of node

-- the frame with this payload that the host of a node sends, of the type 88b5 (IEEE 802: local experiments)
abbrev pub sent_octets : ℕ → Receiver → List ℕ → List ℕ
sent_octets node receiver payload = receiver_address receiver ++ (octets_of node ++ (136 ∷ 181 ∷ payload))

-- among so many nodes there is such a receiver
abbrev pub is_there : ℕ → Receiver → Bool
is_there count All = true
is_there count (Node node) = nat_lt node count

-- why a sending of so many octets is refused before the plant is asked: no such sender, no such receiver, then too many octets
abbrev pub send_refusal : ℕ → ℕ → Receiver → ℕ → Option PlantFault
send_refusal count node receiver octets =
    if nat_lt node count && is_there count receiver
    then (if nat_lt most_payload octets then Some (plant.Node (fault.Reading read.TooLong)) else None)
    else Some plant.NoSuchNode
