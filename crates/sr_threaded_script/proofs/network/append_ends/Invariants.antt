use Rattle.std.proofs.Common.{◌≡◌, ◌++◌, [], drop, take}
use Rattle.std.specs.Prelude.{All}
use Rattle.sr_threaded_script.specs.Reports.{faults_of, report_from, report_of}
use Rattle.sr_threaded_script.proofs.network.append_ends.Given as goal

-- what was told and what is left to tell is all, and no worker of the nodes so far ended early
abbrev pub invariant-loop-node : goal.invariant-loop-node
invariant-loop-node l = record {
  told : l.text ++ report_from l.node (drop l.node l.fn.ends) ≡ report_of l.fn.ends;
  whole : All (λ e. faults_of e ≡ []) (take l.node l.fn.ends);
}
