-- What a node answers to the lines of a script.
use Rattle.std.specs.Prelude.{◌≡◌, ℕ, List, [], ◌++◌, None, Some, ◌⊎◌, take}
use Rattle.sr_frame.specs.declared.ports.Port.{Port}
use Rattle.sr_frame.specs.declared.ports.Port.TheVariants.{H, A, B, C}
use Rattle.sr_node.specs.declared.event.Event.{Event}
use Rattle.sr_node.specs.declared.event.Event.TheVariants as event
use Rattle.sr_node.specs.declared.event.Answer.{Answer}
use Rattle.sr_node.specs.declared.fault.StepFault.{StepFault}
use Rattle.sr_node.specs.Faults.{or_no_memory}
use Rattle.sr_node.specs.Images.{State}
use Rattle.sr_node.specs.Octets.{OctetsArrived, OctetsRefused}
use Rattle.sr_node.specs.Outboxes.{box_at, boxes_left}
use Rattle.sr_node.specs.PerPort.{with_at}
use Rattle.sr_node.specs.Steps.{Step, refusal_of}
use Rattle.sr_script.specs.declared.reading.Command.{Command}
use Rattle.sr_script.specs.declared.reading.Command.TheVariants.{Skip, Arrive, Send, Tick}
use Rattle.sr_forwarding.specs.declared.kind.RoleKind.{RoleKind}
use Rattle.sr_script.specs.Commands.{Says, IsEventLine}
use Rattle.sr_session.specs.Runs.{Dialogue}
use Rattle.sr_forwarding.specs.Kinds.{carriage}
use Rattle.sr_script.specs.Stations.{Station}
use Rattle.sr_script.specs.Texts.{AreLines, name_of, refusal_line}

-- the node once the first parcel that waits at a port is taken, if one waits
abbrev pub left_at : State → Port → State
left_at s port = record s { core = record s.core { out = boxes_left s.core.out port } }

-- the node once all that waits at a port is taken
abbrev pub emptied : State → Port → State
emptied s port = record s { core = record s.core { out = with_at s.core.out port [] } }

-- the first parcel that waits at a port is taken and printed, if one waits
abbrev pub FirstLeft : RoleKind → Port → State → List ℕ → State → Type 0
FirstLeft role port s text t = AreLines role port (take 1 (box_at s.core.out port)) text × (t ≡ left_at s port)

-- all that waits at a port is taken and printed
abbrev pub Emptied : RoleKind → Port → State → List ℕ → State → Type 0
Emptied role port s text t = AreLines role port (box_at s.core.out port) text × (t ≡ emptied s port)

-- all that waits is taken and printed, outlet by outlet in the order H, A, B, C
abbrev pub AllEmptied : RoleKind → State → List ℕ → State → Type 0
AllEmptied role s text t = (h a b c : List ℕ) × (u v w : State) × Emptied role H s h u × Emptied role A u a v
    × Emptied role B v b w × Emptied role C w c t × (text ≡ h ++ (a ++ (b ++ c)))

-- an event is taken, and nothing is printed for it
abbrev pub IsTaken : (Answer → Type 0) → List ℕ → Type 0
IsTaken Answered text = (answer : Answer) × Answered answer × (text ≡ [])

-- an event is refused, which is printed and changes nothing
abbrev pub IsRefused : State → ℕ → (StepFault → Type 0) → List ℕ → State → Type 0
IsRefused s number Refused text t = (fault : StepFault) × (name : List ℕ) × Refused fault
    × (name_of fault ≡ Some name) × (text ≡ refusal_line number name) × (t ≡ s)

-- octets come in at a port, and are taken or refused
abbrev pub ArrivesSo : RoleKind → State → ℕ → Port → ℕ → List ℕ → List ℕ → State → Type 0
ArrivesSo role s number port time octets text t =
    IsTaken (λ a. OctetsArrived (carriage role port) s port octets time a t) text
    ⊎ IsRefused s number (OctetsRefused (carriage role port) s port octets time) text t

-- an event is handed to the node, and is taken or refused
abbrev pub StepsSo : State → ℕ → Event → List ℕ → State → Type 0
StepsSo s number event text t =
    IsTaken (λ a. (refusal_of s event ≡ None) × Step s event a t) text
    ⊎ IsRefused s number (λ f. f ≡ or_no_memory (refusal_of s event)) text t

-- the node obeys a command of the line with this number, and this is printed
abbrev pub Obeys : RoleKind → State → ℕ → Command → List ℕ → List ℕ → State → Type 0
Obeys role s number Skip octets text t = (text ≡ []) × (t ≡ s)
Obeys role s number (Arrive port time) octets text t = ArrivesSo role s number port time octets text t
Obeys role s number (Send time) octets text t = StepsSo s number (event.Send octets time) text t
Obeys role s number (Tick time) octets text t = StepsSo s number (event.Tick time) text t

-- the line with this number is one of a script; the node obeys it, and then all that waits is taken and printed
abbrev pub Replied : RoleKind → State → ℕ → List ℕ → List ℕ → State → Type 0
Replied role s number line text t = (command : Command) × (octets : List ℕ) × Says role line command octets
    × (told : List ℕ) × (u : State) × Obeys role s number command octets told u
    × (lines : List ℕ) × AllEmptied role u lines t × (text ≡ told ++ lines)

-- a script of events at a node, each line answered by what goes out; nothing is said at the end
abbrev pub replay_dialogue : Dialogue Station
replay_dialogue = record {
  Knows = λ s line. IsEventLine s.role line;
  Replied = λ s number line text t. (t.role ≡ s.role) × Replied s.role s.node number line text t.node;
  Ends = λ s text. text ≡ [];
}
