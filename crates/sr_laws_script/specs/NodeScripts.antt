-- What a script of a node is: a run of the node.
use Rattle.std.specs.Prelude.{◌≡◌, ℕ, ◌+◌, ℤ, pos, List, [], ◌∷◌, ◌++◌, if◌then◌else◌}
use Rattle.std.proofs.Common.{inl, inr}
use Rattle.sr_frame.specs.declared.ports.Port.{Port}
use Rattle.sr_frame.specs.declared.ports.Port.TheVariants.{H, A, B, C}
use Rattle.sr_forwarding.specs.Parcels.{ParcelImage}
use Rattle.sr_forwarding.specs.RoleImages.{role_of}
use Rattle.sr_node.specs.declared.event.Event.{Event}
use Rattle.sr_node.specs.declared.event.Event.TheVariants as event
use Rattle.sr_node.specs.Images.{State}
use Rattle.sr_node.specs.Outboxes.{box_at}
use Rattle.sr_node.specs.Starts.{Start}
use Rattle.sr_laws_node.specs.NodeRuns.{Turn, happened, Run}
use Rattle.sr_laws_node.specs.Brought.{is_at, parcels_of, taken, went}
use Rattle.sr_laws_node.specs.Emptying.{takes_all}
use Rattle.sr_laws_node.specs.SteadyNodes.{IsSteady}
use Rattle.sr_session.specs.Runs.{Replies}
use Rattle.sr_script.specs.declared.reading.Command.{Command}
use Rattle.sr_script.specs.declared.reading.Command.TheVariants.{Skip, Arrive, Send, Tick}
use Rattle.sr_forwarding.specs.declared.kind.RoleKind.{RoleKind}
use Rattle.sr_script.specs.declared.setups.Setup.{Setup}
use Rattle.sr_script.specs.Replies.{AllEmptied, ArrivesSo, StepsSo, Obeys, Replied, replay_dialogue}
use Rattle.sr_script.specs.Stations.{Station, start_of}
use Rattle.sr_script.specs.Texts.{AreLines, refusal_line}

-- how the script's node begins
abbrev pub node_start : Setup → Start
node_start setup = record { role = role_of setup.role setup.mac; settings = setup.settings }

-- A piece of what is printed: the parcels that were taken out at an outlet, in order; or that the line of this number was refused.
pub data Piece : Type 0 where
  outward : (port : Port) (parcels : List ParcelImage) → Piece
  refused : (number : ℕ) (name : List ℕ) → Piece

-- octets that come in, as a turn on top of earlier ones, where the node took them; their frame has this whole number
abbrev pub arrival_turns : (role : RoleKind) (s : State) (number : ℕ) (port : Port) (time : ℕ) (octets text : List ℕ) (u : State) → ℤ →
    ArrivesSo role s number port time octets text u → List Turn → List Turn
arrival_turns role s number port time octets text u n (inl (a, (p, read, fits, arrived), none)) turns =
    happened s (event.Arrive port p time) a n ∷ turns
arrival_turns role s number port time octets text u n (inr is_refused) turns = turns

abbrev pub arrival_pieces : (role : RoleKind) (s : State) (number : ℕ) (port : Port) (time : ℕ) (octets text : List ℕ) (u : State) →
    ArrivesSo role s number port time octets text u → List Piece
arrival_pieces role s number port time octets text u (inl taken) = []
arrival_pieces role s number port time octets text u (inr (fault, name, refuses, named, line, same)) = refused number name ∷ []

-- any other event is such a turn too
abbrev pub step_turns : (s : State) (number : ℕ) (e : Event) (text : List ℕ) (u : State) → StepsSo s number e text u → List Turn → List Turn
step_turns s number e text u (inl (a, stepped, none)) turns = happened s e a (pos 0) ∷ turns
step_turns s number e text u (inr is_refused) turns = turns

abbrev pub step_pieces : (s : State) (number : ℕ) (e : Event) (text : List ℕ) (u : State) → StepsSo s number e text u → List Piece
step_pieces s number e text u (inl taken) = []
step_pieces s number e text u (inr (fault, name, refuses, named, line, same)) = refused number name ∷ []

-- what a line asks for
abbrev pub command_turns : (role : RoleKind) (s : State) (number : ℕ) (command : Command) (octets text : List ℕ) (u : State) → ℤ →
    Obeys role s number command octets text u → List Turn → List Turn
command_turns role s number Skip octets text u n obeys turns = turns
command_turns role s number (Arrive port time) octets text u n obeys turns =
    arrival_turns role s number port time octets text u n obeys turns
command_turns role s number (Send time) octets text u n obeys turns = step_turns s number (event.Send octets time) text u obeys turns
command_turns role s number (Tick time) octets text u n obeys turns = step_turns s number (event.Tick time) text u obeys turns

abbrev pub command_pieces : (role : RoleKind) (s : State) (number : ℕ) (command : Command) (octets text : List ℕ) (u : State) →
    Obeys role s number command octets text u → List Piece
command_pieces role s number Skip octets text u obeys = []
command_pieces role s number (Arrive port time) octets text u obeys = arrival_pieces role s number port time octets text u obeys
command_pieces role s number (Send time) octets text u obeys = step_pieces s number (event.Send octets time) text u obeys
command_pieces role s number (Tick time) octets text u obeys = step_pieces s number (event.Tick time) text u obeys

-- all that waits is taken out, outlet by outlet
abbrev pub emptied_turns : (role : RoleKind) (s : State) (text : List ℕ) (t : State) → AllEmptied role s text t → List Turn → List Turn
emptied_turns role s text t (h, a, b, c, u, v, w, at_h, at_a, at_b, at_c, parts) turns =
    takes_all w C (box_at w.core.out C)
    (takes_all v B (box_at v.core.out B) (takes_all u A (box_at u.core.out A) (takes_all s H (box_at s.core.out H) turns)))

abbrev pub emptied_pieces : (role : RoleKind) (s : State) (text : List ℕ) (t : State) → AllEmptied role s text t → List Piece
emptied_pieces role s text t (h, a, b, c, u, v, w, at_h, at_a, at_b, at_c, parts) =
    outward H (box_at s.core.out H)
    ∷ (outward A (box_at u.core.out A) ∷ (outward B (box_at v.core.out B) ∷ (outward C (box_at w.core.out C) ∷ [])))

-- a line: what it asks for, and then all that waits is taken out
abbrev pub line_turns : (role : RoleKind) (s : State) (number : ℕ) (line text : List ℕ) (t : State) → ℤ →
    Replied role s number line text t → List Turn → List Turn
line_turns role s number line text t n (command, octets, says, told, u, obeys, lines, emptied, parts) turns =
    emptied_turns role u lines t emptied (command_turns role s number command octets told u n obeys turns)

abbrev pub line_pieces : (role : RoleKind) (s : State) (number : ℕ) (line text : List ℕ) (t : State) →
    Replied role s number line text t → List Piece
line_pieces role s number line text t (command, octets, says, told, u, obeys, lines, emptied, parts) =
    command_pieces role s number command octets told u obeys ++ emptied_pieces role u lines t emptied

-- all lines; the frame that comes in at a line has the whole number that the line's number stands for
abbrev pub script_turns : (ℕ → ℤ) → (s : Station) (number : ℕ) (lines : List (List ℕ)) (text : List ℕ) (t : Station) →
    Replies replay_dialogue s number lines text t → List Turn → List Turn
script_turns numbers s number [] text t replies turns = turns
script_turns numbers s number (line ∷ lines) text t (first, u, rest, place, (role, replied), replies, parts) turns =
    script_turns numbers u (number + 1) lines rest t replies
    (line_turns s.role s.node number line first u.node (numbers number) replied turns)

abbrev pub script_pieces : (s : Station) (number : ℕ) (lines : List (List ℕ)) (text : List ℕ) (t : Station) →
    Replies replay_dialogue s number lines text t → List Piece
script_pieces s number [] text t replies = []
script_pieces s number (line ∷ lines) text t (first, u, rest, place, (role, replied), replies, parts) =
    line_pieces s.role s.node number line first u.node replied ++ script_pieces u (number + 1) lines rest t replies

-- the text is these pieces, one behind the other: of each parcel a line with its octets, and of each refusal a line
abbrev pub ArePrinted : RoleKind → List Piece → List ℕ → Type 0
ArePrinted role [] text = text ≡ []
ArePrinted role (outward port ps ∷ pieces) text =
    (lines : List ℕ) × (rest : List ℕ) × AreLines role port ps lines × ArePrinted role pieces rest × (text ≡ lines ++ rest)
ArePrinted role (refused number name ∷ pieces) text =
    (rest : List ℕ) × ArePrinted role pieces rest × (text ≡ refusal_line number name ++ rest)

-- all parcels of an outlet among them, in order
abbrev pub outward_at : Port → List Piece → List ParcelImage
outward_at o [] = []
outward_at o (outward port ps ∷ pieces) = (if is_at o port then ps else []) ++ outward_at o pieces
outward_at o (refused number name ∷ pieces) = outward_at o pieces

-- these turns are a run of the node, of which the text tells in these pieces; at its end nothing waits
pub record IsNodeRun (setup : Setup) (turns : List Turn) (pieces : List Piece) (text : List ℕ) (t : State) : Type 0 where
  pub run : Run (node_start setup) turns t
  pub out : (o : Port) → taken o turns ≡ outward_at o pieces
  pub printed : ArePrinted setup.role pieces text
  pub left : (o : Port) → box_at t.core.out o ≡ []

abbrev pub NodeScriptsAreRuns : Type 0
NodeScriptsAreRuns =
    (setup : Setup) (numbers : ℕ → ℤ) (lines : List (List ℕ)) (text : List ℕ) (t : Station)
    (replies : Replies replay_dialogue (start_of setup) 1 lines text t) →
    IsNodeRun setup (script_turns numbers (start_of setup) 1 lines text t replies [])
    (script_pieces (start_of setup) 1 lines text t replies) text t.node

-- where the numbers make that run steady, what is printed at each outlet is what went out there: each frame once
abbrev pub ScriptsPrintEachOnce : Type 0
ScriptsPrintEachOnce =
    (setup : Setup) (numbers : ℕ → ℤ) (lines : List (List ℕ)) (text : List ℕ) (t : Station)
    (replies : Replies replay_dialogue (start_of setup) 1 lines text t) (o : Port) →
    IsSteady (node_start setup) (script_turns numbers (start_of setup) 1 lines text t replies []) →
    outward_at o (script_pieces (start_of setup) 1 lines text t replies)
    ≡ parcels_of (went o (script_turns numbers (start_of setup) 1 lines text t replies []))
