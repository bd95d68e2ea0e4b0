-- What a script does at whose end the status is told is a run.
use Rattle.std.proofs.Common.{ℕ, ◌+◌, ℤ, List, [], ◌∷◌, refl, sym, subst}
use Rattle.sr_node.specs.Starts.{Start}
use Rattle.sr_laws_node.specs.NodeRuns.{Turn, Run}
use Rattle.sr_laws_node.specs.Origins.{new}
use Rattle.sr_laws_node.specs.Emptying.{takes_everywhere, EmptiesNodes}
use Rattle.sr_laws_node.specs.Heard.{TellsWhatItHeard}
use Rattle.sr_session.specs.Runs.{Replies}
use Rattle.sr_script.specs.Stations.{Station, start_of}
use Rattle.sr_script.specs.Statuses.{status_dialogue}
use Rattle.sr_laws_script.proofs.NodeLemmas.{obeys_on}
use Rattle.sr_laws_script.specs.NodeScripts.{node_start, command_turns}
use Rattle.sr_laws_script.specs.StatusScripts.{status_turns, StatusScriptsAreRuns, StatusesTellWhatWasHeard}

lines_run : EmptiesNodes → (start : Start) (numbers : ℕ → ℤ) (turns : List Turn) (s : Station) (number : ℕ) (lines : List (List ℕ)) (text : List ℕ) (t : Station) →
    Run start turns s.node → (h : Replies status_dialogue s number lines text t) → Run start (status_turns numbers s number lines text t h turns) t.node
lines_run empty start numbers turns s number [] text t run (none, same) = subst (λ (x : Station). Run start turns x.node) (sym same) run
lines_run empty start numbers turns s number (line ∷ lines) text t run (front, u, rest, place, (role, (command, octets, says, v, obeys, same)), replies, parts) =
    let mid = command_turns s.role s.node number command octets front v (numbers number) obeys turns in
    let obeyed = obeys_on start s.role turns s.node number command octets front v (numbers number) run obeys in
    let left = subst (Run start (takes_everywhere v mid)) (sym same) (empty (new start) mid v obeyed.run) in
    lines_run empty start numbers (takes_everywhere v mid) u (number + 1) lines rest t left replies

pub status_scripts_are_runs : EmptiesNodes → StatusScriptsAreRuns
status_scripts_are_runs empty setup numbers lines text t replies = lines_run empty (node_start setup) numbers [] (start_of setup) 1 lines text t refl replies

pub statuses_tell : EmptiesNodes → TellsWhatItHeard → StatusesTellWhatWasHeard
statuses_tell empty tells setup numbers lines text t replies =
    tells (new (node_start setup)) (status_turns numbers (start_of setup) 1 lines text t replies []) t.node
    (status_scripts_are_runs empty setup numbers lines text t replies)
