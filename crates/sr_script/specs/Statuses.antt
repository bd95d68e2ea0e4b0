-- A script of events at a node of which the end is told: what it knows of other nodes.
use Rattle.std.specs.Prelude.{◌≡◌, ℕ, List}
use Rattle.sr_node.specs.Images.{State}
use Rattle.sr_node.specs.Outboxes.{boxes_empty}
use Rattle.sr_script.specs.declared.reading.Command.{Command}
use Rattle.sr_forwarding.specs.declared.kind.RoleKind.{RoleKind}
use Rattle.sr_script.specs.Commands.{Says, IsEventLine}
use Rattle.sr_script.specs.Replies.{Obeys}
use Rattle.sr_session.specs.Runs.{Dialogue}
use Rattle.sr_script.specs.Stations.{Station}
use Rattle.sr_script.specs.StatusTexts.{status_text}

-- the node once all that waits is taken
abbrev pub all_taken : State → State
all_taken s = record s { core = record s.core { out = boxes_empty } }

-- the line with this number is one of a script; the node obeys it, and then all that waits is taken: what is printed is a
-- refusal alone
abbrev pub Noted : RoleKind → State → ℕ → List ℕ → List ℕ → State → Type 0
Noted role s number line text t = (command : Command) × (octets : List ℕ) × Says role line command octets
    × (u : State) × Obeys role s number command octets text u × (t ≡ all_taken u)

-- a script of events at a node; at the end it is told what the node knows of others
abbrev pub status_dialogue : Dialogue Station
status_dialogue = record {
  Knows = λ s line. IsEventLine s.role line;
  Replied = λ s number line text t. (t.role ≡ s.role) × Noted s.role s.node number line text t.node;
  Ends = λ s text. text ≡ status_text s.node.core;
}
