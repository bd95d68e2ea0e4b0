-- What comes of the lines of a script for a plant.
use Rattle.std.specs.Prelude.{◌≡◌, ℕ, List, [], length, Option, None, Some}
use Rattle.sr_session.specs.Runs.{Dialogue}
use Rattle.sr_plant.specs.declared.event.PlantEvent.TheVariants as event
use Rattle.sr_plant.specs.declared.fault.PlantFault.{PlantFault}
use Rattle.sr_plant.specs.Plants.{Plant}
use Rattle.sr_plant_script.specs.declared.command.Receiver.{Receiver}
use Rattle.sr_plant_script.specs.declared.command.Command.{Command}
use Rattle.sr_plant_script.specs.declared.command.Command.TheVariants.{Skip, Send, On, Tick, Flow}
use Rattle.sr_plant_script.specs.Commands.{Says, IsPlantLine}
use Rattle.sr_plant_script.specs.Sendings.{send_refusal, sent_octets}
use Rattle.sr_plant_script.specs.Texts.{flight_line}
use Rattle.sr_plant_script.specs.Happenings.{event_on, IsTold, Happens, Flows}

-- the host of a node sends these octets to a receiver, or that is refused with this fault
abbrev pub Sends : Plant → ℕ → ℕ → Receiver → List ℕ → Option PlantFault → List ℕ → Plant → Type 0
Sends s number node receiver octets None text t = Happens s number (event.Send node (sent_octets node receiver octets)) text t
Sends s number node receiver octets (Some f) text t = IsTold s number f text t

-- the plant obeys a command of the line with this number, and this is printed
abbrev pub Obeys : Plant → ℕ → Command → List ℕ → List ℕ → Plant → Type 0
Obeys s number Skip octets text t = (text ≡ []) × (t ≡ s)
Obeys s number (Send node receiver) octets text t =
    Sends s number node receiver octets (send_refusal (length s.nodes) node receiver (length octets)) text t
Obeys s number (On verb place) octets text t = Happens s number (event_on verb place) text t
Obeys s number (Tick node time) octets text t = Happens s number (event.Tick node time) text t
Obeys s number Flow octets text t = Flows s number text t

-- the line with this number is one of a script, and the plant obeys it
abbrev pub Replied : Plant → ℕ → List ℕ → List ℕ → Plant → Type 0
Replied s number line text t = (command : Command) × (octets : List ℕ) × Says line command octets × Obeys s number command octets text t

-- a script of what happens to a plant; at the end is told how many copies are in flight
abbrev pub plant_dialogue : Dialogue Plant
plant_dialogue = record {
  Knows = λ s line. IsPlantLine line;
  Replied = Replied;
  Ends = λ s text. text ≡ flight_line (length s.flight);
}
