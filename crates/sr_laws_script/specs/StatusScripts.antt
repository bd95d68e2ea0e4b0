-- What a script does at whose end the status is told: a run of the node.
use Rattle.std.specs.Prelude.{ℕ, ◌+◌, ℤ, List, [], ◌∷◌}
use Rattle.sr_node.specs.Images.{State}
use Rattle.sr_laws_node.specs.NodeRuns.{Turn, Run}
use Rattle.sr_laws_node.specs.Emptying.{takes_everywhere}
use Rattle.sr_laws_node.specs.Heard.{HappenIn, TellsOf}
use Rattle.sr_node_table.specs.Hearings as nodes
use Rattle.sr_session.specs.Runs.{Replies}
use Rattle.sr_forwarding.specs.declared.kind.RoleKind.{RoleKind}
use Rattle.sr_script.specs.declared.setups.Setup.{Setup}
use Rattle.sr_script.specs.Stations.{Station, start_of}
use Rattle.sr_script.specs.Statuses.{Noted, status_dialogue}
use Rattle.sr_laws_script.specs.NodeScripts.{node_start, command_turns}

-- a line: what it asks for, and then all that waits is taken out
abbrev pub noted_turns : (role : RoleKind) (s : State) (number : ℕ) (line text : List ℕ) (t : State) → ℤ →
    Noted role s number line text t → List Turn → List Turn
noted_turns role s number line text t n (command, octets, says, u, obeys, same) turns =
    takes_everywhere u (command_turns role s number command octets text u n obeys turns)

-- all lines; the frame that comes in at a line has the whole number that the line's number stands for
abbrev pub status_turns : (ℕ → ℤ) → (s : Station) (number : ℕ) (lines : List (List ℕ)) (text : List ℕ) (t : Station) →
    Replies status_dialogue s number lines text t → List Turn → List Turn
status_turns numbers s number [] text t replies turns = turns
status_turns numbers s number (line ∷ lines) text t (first, u, rest, place, (role, noted), replies, parts) turns =
    status_turns numbers u (number + 1) lines rest t replies
    (noted_turns s.role s.node number line first u.node (numbers number) noted turns)

abbrev pub StatusScriptsAreRuns : Type 0
StatusScriptsAreRuns =
    (setup : Setup) (numbers : ℕ → ℤ) (lines : List (List ℕ)) (text : List ℕ) (t : Station)
    (replies : Replies status_dialogue (start_of setup) 1 lines text t) →
    Run (node_start setup) (status_turns numbers (start_of setup) 1 lines text t replies []) t.node

-- what is told at the end of each address is what the node's hearings in that run say of it
abbrev pub StatusesTellWhatWasHeard : Type 0
StatusesTellWhatWasHeard =
    (setup : Setup) (numbers : ℕ → ℤ) (lines : List (List ℕ)) (text : List ℕ) (t : Station)
    (replies : Replies status_dialogue (start_of setup) 1 lines text t) →
    (all : List nodes.Event) × HappenIn (status_turns numbers (start_of setup) 1 lines text t replies []) all × TellsOf all t.node
