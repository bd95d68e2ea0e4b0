-- The lines of a script whose nodes run on threads, and what comes of them.
use Rattle.std.specs.Prelude.{◌≡◌, ◌⊎◌, ℕ, List, [], ◌∷◌, ◌++◌, length, Option, None, Some}
use Rattle.sr_session.specs.Runs.{Dialogue}
use Rattle.sr_words.specs.Words.{IsComment}
use Rattle.sr_script.specs.Texts.{refusal_line}
use Rattle.sr_plant.specs.declared.fault.PlantFault.{PlantFault}
use Rattle.sr_plant_script.specs.declared.command.Receiver.{Receiver}
use Rattle.sr_plant_script.specs.declared.command.Command.TheVariants.{Send}
use Rattle.sr_plant_script.specs.Commands.{Says}
use Rattle.sr_plant_script.specs.Sendings.{send_refusal, sent_octets}
use Rattle.sr_plant_script.specs.Texts.{fault_name}

-- the line asks for nothing, or that the host of a node sends octets
abbrev pub Asks : List ℕ → Option (ℕ × Receiver) → List ℕ → Type 0
Asks line None octets = (line ≡ []) ⊎ IsComment line
Asks line (Some parts) octets = Says line (Send parts.0 parts.1) octets

-- the line is one of such a script
abbrev pub IsThreadedLine : List ℕ → Type 0
IsThreadedLine line = (asked : Option (ℕ × Receiver)) × (octets : List ℕ) × Asks line asked octets

-- how many nodes there are, what their hosts are to send, in order: the number of the node, and the octets of the frame; and the number
-- of the last line
pub record Sendings : Type 0 where
  pub nodes : ℕ
  pub sent : List (ℕ × List ℕ)
  pub last : ℕ

-- a sending of the line with this number is taken, or refused, which is printed
abbrev pub IsSendingTaken : Sendings → ℕ → ℕ → Receiver → List ℕ → Option PlantFault → List ℕ → Sendings → Type 0
IsSendingTaken s number node receiver octets None text t =
    (text ≡ []) × (t ≡ record s { sent = s.sent ++ (node, sent_octets node receiver octets) ∷ []; last = number })
IsSendingTaken s number node receiver octets (Some fault) text t =
    (name : List ℕ) × (fault_name fault ≡ Some name) × (text ≡ refusal_line number name) × (t ≡ record s { last = number })

-- what a line asks for is done
abbrev pub IsDone : Sendings → ℕ → Option (ℕ × Receiver) → List ℕ → List ℕ → Sendings → Type 0
IsDone s number None octets text t = (text ≡ []) × (t ≡ record s { last = number })
IsDone s number (Some parts) octets text t =
    IsSendingTaken s number parts.0 parts.1 octets (send_refusal s.nodes parts.0 parts.1 (length octets)) text t

-- the line with this number is one of such a script, and what it asks for is done
abbrev pub Answered : Sendings → ℕ → List ℕ → List ℕ → Sendings → Type 0
Answered s number line text t =
    (asked : Option (ℕ × Receiver)) × (octets : List ℕ) × Asks line asked octets × IsDone s number asked octets text t

-- a script of what hosts are to send; nothing is said at its end
abbrev pub threaded_dialogue : Dialogue Sendings
threaded_dialogue = record {
  Knows = λ s line. IsThreadedLine line;
  Replied = Answered;
  Ends = λ s text. text ≡ [];
}
