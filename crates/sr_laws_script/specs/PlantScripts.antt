-- What a script of a network is: a run of the network.
use Rattle.std.specs.Prelude.{◌≡◌, ℕ, zero, suc, ◌+◌, List, [], ◌∷◌, ◌++◌, length, Option, None, Some}
use Rattle.std.proofs.Common.{inl, inr}
use Rattle.sr_forwarding.specs.Parcels.{ParcelImage}
use Rattle.sr_forwarding.specs.RoleImages.{role_of}
use Rattle.sr_node.specs.declared.mode.Settings.{Settings}
use Rattle.sr_node.specs.Starts.{Start}
use Rattle.sr_session.specs.Runs.{Replies}
use Rattle.sr_plant.specs.declared.topology.Topology.{Topology}
use Rattle.sr_plant.specs.declared.event.PlantEvent.{PlantEvent}
use Rattle.sr_plant.specs.declared.event.PlantEvent.TheVariants as event
use Rattle.sr_plant.specs.declared.fault.PlantFault.{PlantFault}
use Rattle.sr_plant.specs.Plants.{Plant}
use Rattle.sr_plant.specs.Topologies.{kind_of}
use Rattle.sr_laws_plant_runs.specs.PlantRuns.{Turn, PlantRun}
use Rattle.sr_laws_plant_runs.specs.Histories.{Zip}
use Rattle.sr_laws_plant_runs.specs.Taken.{taken_away, joined_up, TakenRun}
use Rattle.sr_plant_script.specs.declared.command.Command.{Command}
use Rattle.sr_plant_script.specs.declared.command.Command.TheVariants.{Skip, Send, On, Tick, Flow}
use Rattle.sr_plant_script.specs.declared.command.Receiver.{Receiver}
use Rattle.sr_plant_script.specs.declared.setup.PlantSetup.{PlantSetup}
use Rattle.sr_plant_script.specs.Happenings.{event_on, Happens, Carries, Flows}
use Rattle.sr_plant_script.specs.Members.{mac_of, start_of}
use Rattle.sr_plant_script.specs.Replies.{Sends, Obeys, Replied, plant_dialogue}
use Rattle.sr_plant_script.specs.Sendings.{sent_octets, send_refusal}
use Rattle.sr_plant_script.specs.Texts.{all_up_lines}

-- how the first nodes of the script's plant begin, so many
abbrev pub starts_below : Topology → Settings → ℕ → List Start
starts_below t settings zero = []
starts_below t settings (suc n) =
    starts_below t settings n ++ record { role = role_of (kind_of t n) (mac_of n); settings = settings } ∷ []

abbrev pub starts_of : PlantSetup → List Start
starts_of setup = starts_below setup.topology setup.settings setup.nodes

-- What a script does, piece by piece: the plant takes an event, after which it is this, with what was then handed up; or a line is printed
-- that tells a refusal or a count.
pub data Deed : Type 0 where
  took : (turn : Turn) (after : Plant) → Deed
  told : (line : List ℕ) → Deed

-- what the answer to an event is
abbrev pub done_by : (s : Plant) (number : ℕ) (e : PlantEvent) (text : List ℕ) (t : Plant) → Happens s number e text t → List Deed
done_by s number e text t (inl taken) = took (record { before = s; event = e }) taken.after ∷ []
done_by s number e text t (inr refused) = told text ∷ []

-- to a frame of a host
abbrev pub done_by_send : (s : Plant) (number node : ℕ) (receiver : Receiver) (octets : List ℕ) (fault : Option PlantFault)
    (text : List ℕ) (t : Plant) → Sends s number node receiver octets fault text t → List Deed
done_by_send s number node receiver octets None text t sent =
    done_by s number (event.Send node (sent_octets node receiver octets)) text t sent
done_by_send s number node receiver octets (Some f) text t refused = told text ∷ []

-- to the carries of a flow, the last one behind the others
abbrev pub done_by_carries : (s : Plant) (n : ℕ) (text : List ℕ) (t : Plant) → Carries s n text t → List Deed
done_by_carries s zero text t none = []
done_by_carries s (suc n) text t (u, front, last, carries, taken, parts) =
    done_by_carries s n front u carries ++ took (record { before = u; event = event.Carry 0 }) taken.after ∷ []

-- to a flow
abbrev pub done_by_flow : (s : Plant) (number : ℕ) (text : List ℕ) (t : Plant) → Flows s number text t → List Deed
done_by_flow s number text t (n, u, ups, last, most, carries, over, parts) = done_by_carries s n ups u carries ++ told last ∷ []

-- to a command
abbrev pub done_at : (s : Plant) (number : ℕ) (command : Command) (octets text : List ℕ) (t : Plant) →
    Obeys s number command octets text t → List Deed
done_at s number Skip octets text t obeys = []
done_at s number (Send node receiver) octets text t obeys =
    done_by_send s number node receiver octets (send_refusal (length s.nodes) node receiver (length octets)) text t obeys
done_at s number (On verb place) octets text t obeys = done_by s number (event_on verb place) text t obeys
done_at s number (Tick node time) octets text t obeys = done_by s number (event.Tick node time) text t obeys
done_at s number Flow octets text t obeys = done_by_flow s number text t obeys

-- to a line
abbrev pub done_at_line : (s : Plant) (number : ℕ) (line text : List ℕ) (t : Plant) → Replied s number line text t → List Deed
done_at_line s number line text t (command, octets, says, obeys) = done_at s number command octets text t obeys

-- to all lines, oldest first
abbrev pub done_in_script : (s : Plant) (number : ℕ) (lines : List (List ℕ)) (text : List ℕ) (t : Plant) →
    Replies plant_dialogue s number lines text t → List Deed
done_in_script s number [] text t replies = []
done_in_script s number (line ∷ lines) text t (first, u, rest, place, replied, replies, parts) =
    done_at_line s number line first u replied ++ done_in_script u (number + 1) lines rest t replies

-- the turns of the run, newest first, on top of earlier ones
abbrev pub turns_on : List Turn → List Deed → List Turn
turns_on turns [] = turns
turns_on turns (took turn after ∷ deeds) = turns_on (turn ∷ turns) deeds
turns_on turns (told line ∷ deeds) = turns_on turns deeds

-- the plant after the last of them, before anything is taken away
abbrev pub plant_after : Plant → List Deed → Plant
plant_after v [] = v
plant_after v (took turn after ∷ deeds) = plant_after after deeds
plant_after v (told line ∷ deeds) = plant_after v deeds

-- all that was ever handed up, node by node
abbrev pub ups_after : List (List ParcelImage) → List Deed → List (List ParcelImage)
ups_after ups [] = ups
ups_after ups (took turn after ∷ deeds) = ups_after (joined_up ups after.handed) deeds
ups_after ups (told line ∷ deeds) = ups_after ups deeds

-- what is printed: at each event what was handed up, and the lines between
abbrev pub printed_for : List Deed → List ℕ
printed_for [] = []
printed_for (took turn after ∷ deeds) = all_up_lines 0 after.handed ++ printed_for deeds
printed_for (told line ∷ deeds) = line ++ printed_for deeds

-- what was done in a script that began with this plant is a run, of which this text tells, and which left this plant
pub record IsRunOf (setup : PlantSetup) (deeds : List Deed) (text : List ℕ) (t : Plant) : Type 0 where
  pub taken : TakenRun setup.topology (starts_of setup) (turns_on [] deeds) (plant_after (start_of setup) deeds)
      (ups_after (start_of setup).handed deeds)
  pub left : t ≡ taken_away (plant_after (start_of setup) deeds)
  pub printed : text ≡ printed_for deeds
  pub turns : List Turn
  pub same : Zip (λ a b. a.event ≡ b.event) (turns_on [] deeds) turns
  pub run : PlantRun setup.topology (starts_of setup) turns
      (record (plant_after (start_of setup) deeds) { handed = ups_after (start_of setup).handed deeds })

abbrev pub PlantScriptsAreRuns : Type 0
PlantScriptsAreRuns =
    (setup : PlantSetup) (lines : List (List ℕ)) (text : List ℕ) (t : Plant)
    (replies : Replies plant_dialogue (start_of setup) 1 lines text t) →
    IsRunOf setup (done_in_script (start_of setup) 1 lines text t replies) text t
