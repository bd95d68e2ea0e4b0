-- What a script of a node does is a run, step by step along the answers to its lines.
use Rattle.std.proofs.Common.{◌≡◌, ℕ, ◌+◌, ℤ, List, [], ◌∷◌, ◌++◌, inl, inr, refl, sym, ap, subst, ◌∙◌}
use Rattle.std.specs.Prelude.{if◌then◌else◌}
use Rattle.std.proofs.lemmas.List.{append-nil, append_assoc}
use Rattle.sr_frame.specs.declared.ports.Port.{Port}
use Rattle.sr_frame.specs.declared.ports.Port.TheVariants.{H, A, B, C}
use Rattle.sr_forwarding.specs.Parcels.{ParcelImage}
use Rattle.sr_node.specs.declared.event.Event.TheVariants as event
use Rattle.sr_node.specs.Images.{State}
use Rattle.sr_node.specs.Outboxes.{box_at}
use Rattle.sr_node.specs.Starts.{Start}
use Rattle.sr_laws_node.specs.NodeRuns.{Turn, Run}
use Rattle.sr_laws_node.specs.Origins.{new}
use Rattle.sr_laws_node.specs.Brought.{is_at, taken}
use Rattle.sr_laws_node.specs.Emptying.{takes_all, EmptiesOutlets, TakesWhatWaits}
use Rattle.sr_laws_node.specs.NodeLaws.{EachOnce}
use Rattle.sr_session.specs.Runs.{Replies}
use Rattle.sr_script.specs.declared.reading.Command.{Command}
use Rattle.sr_script.specs.declared.reading.Command.TheVariants.{Skip, Arrive, Send, Tick}
use Rattle.sr_forwarding.specs.declared.kind.RoleKind.{RoleKind}
use Rattle.sr_script.specs.Replies.{emptied, Emptied, AllEmptied, ArrivesSo, StepsSo, Obeys, Replied, replay_dialogue}
use Rattle.sr_script.specs.Stations.{Station, start_of}
use Rattle.sr_script.specs.Texts.{refusal_line}
use Rattle.sr_laws_script.specs.NodeScripts.{
  node_start,
  Piece,
  outward,
  refused,
  arrival_turns,
  arrival_pieces,
  step_turns,
  step_pieces,
  command_turns,
  command_pieces,
  emptied_turns,
  emptied_pieces,
  line_turns,
  line_pieces,
  script_turns,
  script_pieces,
  ArePrinted,
  outward_at,
  NodeScriptsAreRuns,
  ScriptsPrintEachOnce,
}

-- from these turns on there is a run to these others, of which this text tells in these pieces, and which leaves this node
pub record Leads (start : Start) (role : RoleKind) (turns after : List Turn) (pieces : List Piece) (text : List ℕ) (t : State) : Type 0 where
  pub run : Run start after t
  pub out : (o : Port) → taken o after ≡ taken o turns ++ outward_at o pieces
  pub printed : ArePrinted role pieces text

outward_more : (o : Port) (a b : List Piece) → outward_at o (a ++ b) ≡ outward_at o a ++ outward_at o b
outward_more o [] b = refl
outward_more o (outward port ps ∷ a) b =
    ap (λ (x : List ParcelImage). (if is_at o port then ps else []) ++ x) (outward_more o a b)
    ∙ sym (append_assoc (if is_at o port then ps else []) (outward_at o a) (outward_at o b))
outward_more o (refused number name ∷ a) b = outward_more o a b

printed_more : (role : RoleKind) (a b : List Piece) (front last : List ℕ) → ArePrinted role a front → ArePrinted role b last →
    ArePrinted role (a ++ b) (front ++ last)
printed_more role [] b front last none second = subst (λ (x : List ℕ). ArePrinted role b (x ++ last)) (sym none) second
printed_more role (outward port ps ∷ a) b front last (lines, rest, are, more, parts) second = (
  lines,
  rest ++ last,
  are,
  printed_more role a b rest last more second,
  ap (λ (x : List ℕ). x ++ last) parts ∙ append_assoc lines rest last,
)
printed_more role (refused number name ∷ a) b front last (rest, more, parts) second = (
  rest ++ last,
  printed_more role a b rest last more second,
  ap (λ (x : List ℕ). x ++ last) parts ∙ append_assoc (refusal_line number name) rest last,
)

-- nothing happens
stays : (start : Start) (role : RoleKind) (turns : List Turn) (s : State) → Run start turns s → Leads start role turns turns [] [] s
stays start role turns s run = record { run = run; out = λ o. sym (append-nil (taken o turns)); printed = refl }

-- one behind the other
followed : (start : Start) (role : RoleKind) (turns mid after : List Turn) (a b : List Piece) (front last : List ℕ) (u t : State) →
    Leads start role turns mid a front u → Leads start role mid after b last t → Leads start role turns after (a ++ b) (front ++ last) t
followed start role turns mid after a b front last u t first second = record {
  run = second.run;
  out = λ o. second.out o ∙ ap (λ (x : List ParcelImage). x ++ outward_at o b) (first.out o)
      ∙ append_assoc (taken o turns) (outward_at o a) (outward_at o b)
      ∙ ap (λ (x : List ParcelImage). taken o turns ++ x) (sym (outward_more o a b));
  printed = printed_more role a b front last first.printed second.printed;
}

-- a line is refused, which is printed and changes nothing
refuses : (start : Start) (role : RoleKind) (turns : List Turn) (s u : State) (number : ℕ) (name text : List ℕ) → Run start turns s →
    text ≡ refusal_line number name → u ≡ s → Leads start role turns turns (refused number name ∷ []) text u
refuses start role turns s u number name text run line same = record {
  run = subst (Run start turns) (sym same) run;
  out = λ o. sym (append-nil (taken o turns));
  printed = ([], refl, line ∙ sym (append-nil (refusal_line number name)));
}

arrives_on : (start : Start) (role : RoleKind) (turns : List Turn) (s : State) (number : ℕ) (port : Port) (time : ℕ) (octets text : List ℕ)
    (u : State) (n : ℤ) → Run start turns s → (h : ArrivesSo role s number port time octets text u) →
    Leads start role turns (arrival_turns role s number port time octets text u n h turns) (arrival_pieces role s number port time octets text u h) text u
arrives_on start role turns s number port time octets text u n run (inl (a, (p, read, fits, arrived), none)) =
    record { run = (run, fits, arrived); out = λ o. refl; printed = none }
arrives_on start role turns s number port time octets text u n run (inr (fault, name, why, named, line, same)) =
    refuses start role turns s u number name text run line same

send_on : (start : Start) (role : RoleKind) (turns : List Turn) (s : State) (number : ℕ) (frame : List ℕ) (time : ℕ) (text : List ℕ) (u : State) →
    Run start turns s → (h : StepsSo s number (event.Send frame time) text u) →
    Leads start role turns (step_turns s number (event.Send frame time) text u h turns) (step_pieces s number (event.Send frame time) text u h) text u
send_on start role turns s number frame time text u run (inl (a, stepped, none)) =
    record { run = (run, stepped.0, stepped.1); out = λ o. refl; printed = none }
send_on start role turns s number frame time text u run (inr (fault, name, why, named, line, same)) =
    refuses start role turns s u number name text run line same

tick_on : (start : Start) (role : RoleKind) (turns : List Turn) (s : State) (number time : ℕ) (text : List ℕ) (u : State) →
    Run start turns s → (h : StepsSo s number (event.Tick time) text u) →
    Leads start role turns (step_turns s number (event.Tick time) text u h turns) (step_pieces s number (event.Tick time) text u h) text u
tick_on start role turns s number time text u run (inl (a, stepped, none)) =
    record { run = (run, stepped.0, stepped.1); out = λ o. refl; printed = none }
tick_on start role turns s number time text u run (inr (fault, name, why, named, line, same)) =
    refuses start role turns s u number name text run line same

pub obeys_on : (start : Start) (role : RoleKind) (turns : List Turn) (s : State) (number : ℕ) (command : Command) (octets text : List ℕ) (u : State)
    (n : ℤ) → Run start turns s → (h : Obeys role s number command octets text u) →
    Leads start role turns (command_turns role s number command octets text u n h turns) (command_pieces role s number command octets text u h) text u
obeys_on start role turns s number Skip octets text u n run (none, same) =
    record { run = subst (Run start turns) (sym same) run; out = λ o. sym (append-nil (taken o turns)); printed = none }
obeys_on start role turns s number (Arrive port time) octets text u n run h = arrives_on start role turns s number port time octets text u n run h
obeys_on start role turns s number (Send time) octets text u n run h = send_on start role turns s number octets time text u run h
obeys_on start role turns s number (Tick time) octets text u n run h = tick_on start role turns s number time text u run h

-- an outlet is emptied
empties_on : EmptiesOutlets → TakesWhatWaits → (start : Start) (role : RoleKind) (turns : List Turn) (s : State) (port : Port) (text : List ℕ) (u : State) → Run start turns s →
    Emptied role port s text u →
    Leads start role turns (takes_all s port (box_at s.core.out port) turns) (outward port (box_at s.core.out port) ∷ []) text u
empties_on empty grows start role turns s port text u run (are, same) = record {
  run = subst (Run start (takes_all s port (box_at s.core.out port) turns)) (sym same) (empty (new start) turns s port run);
  out = λ o. grows o s port (box_at s.core.out port) turns
      ∙ ap (λ (x : List ParcelImage). taken o turns ++ x) (sym (append-nil (if is_at o port then box_at s.core.out port else [])));
  printed = (text, [], are, refl, sym (append-nil text));
}

all_on : EmptiesOutlets → TakesWhatWaits → (start : Start) (role : RoleKind) (turns : List Turn) (s : State) (text : List ℕ) (t : State) → Run start turns s →
    (h : AllEmptied role s text t) → Leads start role turns (emptied_turns role s text t h turns) (emptied_pieces role s text t h) text t
all_on empty grows start role turns s text t run (h, a, b, c, u, v, w, at_h, at_a, at_b, at_c, parts) =
    let from_h = takes_all s H (box_at s.core.out H) turns in
    let from_a = takes_all u A (box_at u.core.out A) from_h in
    let from_b = takes_all v B (box_at v.core.out B) from_a in
    let from_c = takes_all w C (box_at w.core.out C) from_b in
    let l_h = empties_on empty grows start role turns s H h u run at_h in
    let l_a = empties_on empty grows start role from_h u A a v l_h.run at_a in
    let l_b = empties_on empty grows start role from_a v B b w l_a.run at_b in
    let l_c = empties_on empty grows start role from_b w C c t l_b.run at_c in
    let bc = followed start role from_a from_b from_c (outward B (box_at v.core.out B) ∷ []) (outward C (box_at w.core.out C) ∷ []) b c w t l_b l_c in
    let abc = followed start role from_h from_a from_c (outward A (box_at u.core.out A) ∷ [])
    (outward B (box_at v.core.out B) ∷ outward C (box_at w.core.out C) ∷ []) a (b ++ c) v t l_a bc in
    subst (λ (x : List ℕ). Leads start role turns from_c (outward H (box_at s.core.out H) ∷ outward A (box_at u.core.out A) ∷ outward B (box_at v.core.out B) ∷ outward C (box_at w.core.out C) ∷ []) x t)
    (sym parts)
    (followed start role turns from_h from_c (outward H (box_at s.core.out H) ∷ [])
    (outward A (box_at u.core.out A) ∷ outward B (box_at v.core.out B) ∷ outward C (box_at w.core.out C) ∷ []) h (a ++ (b ++ c)) u t l_h abc)

replied_on : EmptiesOutlets → TakesWhatWaits → (start : Start) (role : RoleKind) (turns : List Turn) (s : State) (number : ℕ) (line text : List ℕ) (t : State) (n : ℤ) →
    Run start turns s → (h : Replied role s number line text t) →
    Leads start role turns (line_turns role s number line text t n h turns) (line_pieces role s number line text t h) text t
replied_on empty grows start role turns s number line text t n run (command, octets, says, told, u, obeys, lines, all, parts) =
    let mid = command_turns role s number command octets told u n obeys turns in
    let first = obeys_on start role turns s number command octets told u n run obeys in
    let second = all_on empty grows start role mid u lines t first.run all in
    subst (λ (x : List ℕ). Leads start role turns (emptied_turns role u lines t all mid) (command_pieces role s number command octets told u obeys ++ emptied_pieces role u lines t all) x t)
    (sym parts)
    (followed start role turns mid (emptied_turns role u lines t all mid) (command_pieces role s number command octets told u obeys)
    (emptied_pieces role u lines t all) told lines u t first second)

lines_on : EmptiesOutlets → TakesWhatWaits → (start : Start) (numbers : ℕ → ℤ) (turns : List Turn) (s : Station) (number : ℕ) (lines : List (List ℕ)) (text : List ℕ) (t : Station) →
    Run start turns s.node → (h : Replies replay_dialogue s number lines text t) →
    Leads start s.role turns (script_turns numbers s number lines text t h turns) (script_pieces s number lines text t h) text t.node
lines_on empty grows start numbers turns s number [] text t run (none, same) = record {
  run = subst (λ (x : Station). Run start turns x.node) (sym same) run;
  out = λ o. sym (append-nil (taken o turns));
  printed = none;
}
lines_on empty grows start numbers turns s number (line ∷ lines) text t run (front, u, rest, place, (role, replied), replies, parts) =
    let mid = line_turns s.role s.node number line front u.node (numbers number) replied turns in
    let after = script_turns numbers u (number + 1) lines rest t replies mid in
    let a = line_pieces s.role s.node number line front u.node replied in
    let b = script_pieces u (number + 1) lines rest t replies in
    let first = replied_on empty grows start s.role turns s.node number line front u.node (numbers number) run replied in
    let second = lines_on empty grows start numbers mid u (number + 1) lines rest t first.run replies in
    let same_role = subst (λ (r : RoleKind). Leads start r mid after b rest t.node) role second in
    subst (λ (x : List ℕ). Leads start s.role turns after (a ++ b) x t.node) (sym parts)
    (followed start s.role turns mid after a b front rest u.node t.node first same_role)

-- nothing waits
AreEmpty : State → Type 0
AreEmpty s = (o : Port) → box_at s.core.out o ≡ []

all_empty : (role : RoleKind) (s : State) (text : List ℕ) (t : State) → AllEmptied role s text t → AreEmpty t
unfolding AreEmpty
all_empty role s text t (h, a, b, c, u, v, w, at_h, at_a, at_b, at_c, parts) o =
    ap (λ (x : State). box_at x.core.out o)
    (at_c.1 ∙ ap (λ (x : State). emptied x C) (at_b.1 ∙ ap (λ (x : State). emptied x B) (at_a.1 ∙ ap (λ (x : State). emptied x A) at_h.1)))
    ∙ by o
  where
    by : (q : Port) → box_at (emptied (emptied (emptied (emptied s H) A) B) C).core.out q ≡ []
    by H = refl
    by A = refl
    by B = refl
    by C = refl

lines_empty : (s : Station) (number : ℕ) (lines : List (List ℕ)) (text : List ℕ) (t : Station) → AreEmpty s.node →
    Replies replay_dialogue s number lines text t → AreEmpty t.node
unfolding AreEmpty
lines_empty s number [] text t empty (none, same) = λ o. ap (λ (x : Station). box_at x.node.core.out o) same ∙ empty o
lines_empty s number (line ∷ lines) text t empty
    (front, u, rest, place, (role, (command, octets, says, told, v, obeys, printed, all, parts)), replies, more) =
    lines_empty u (number + 1) lines rest t (all_empty s.role v printed u.node all) replies

pub node_scripts_are_runs : EmptiesOutlets → TakesWhatWaits → NodeScriptsAreRuns
unfolding AreEmpty
node_scripts_are_runs empty grows setup numbers lines text t replies =
    let leads = lines_on empty grows (node_start setup) numbers [] (start_of setup) 1 lines text t refl replies in
    record {
      run = leads.run;
      out = leads.out;
      printed = leads.printed;
      left = lines_empty (start_of setup) 1 lines text t none replies;
    }
  where
    none : (o : Port) → box_at (start_of setup).node.core.out o ≡ []
    none H = refl
    none A = refl
    none B = refl
    none C = refl

pub scripts_print_each_once : EmptiesOutlets → TakesWhatWaits → EachOnce → ScriptsPrintEachOnce
scripts_print_each_once empty grows each setup numbers lines text t replies o steady =
    let is = node_scripts_are_runs empty grows setup numbers lines text t replies in
    let turns = script_turns numbers (start_of setup) 1 lines text t replies [] in
    sym (is.out o) ∙ sym (append-nil (taken o turns)) ∙ ap (λ (x : List ParcelImage). taken o turns ++ x) (sym (is.left o))
    ∙ each (new (node_start setup)) turns t.node o is.run steady
