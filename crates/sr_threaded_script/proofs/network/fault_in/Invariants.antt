use Rattle.std.proofs.Common.{◌≡◌, length}
use Rattle.std.specs.List.{filter_map}
use Rattle.std.specs.Prelude.{slice_get}
use Rattle.sr_threaded_script.specs.Reports.{faults_of}
use Rattle.sr_threaded_script.proofs.network.fault_in.Given as goal

-- no worker so far ended early
abbrev pub invariant-loop-one : goal.invariant-loop-one
invariant-loop-one l = slice_get (filter_map (λ x. x.fault) l.rest) 0 ≡ slice_get (faults_of l.fn.end) 0

abbrev pub decreases-loop-one : goal.decreases-loop-one
decreases-loop-one l = length l.rest
