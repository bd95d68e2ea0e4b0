-- Why a threaded run ends early.
use Rattle.std.specs.Prelude.{ℕ, ◌∷◌, []}
use Rattle.sr_session.specs.declared.fault.FaultKind.TheVariants as kind
use Rattle.sr_session.specs.Lines.{IsOneOf}
use Rattle.sr_threaded.specs.declared.fault.NetworkFault.{NetworkFault}
use Rattle.sr_threaded.specs.declared.fault.NetworkFault.TheVariants as network
use Rattle.sr_threaded_script.specs.declared.fault.RunFault.{RunFault}
use Rattle.sr_threaded_script.specs.declared.fault.RunFault.TheVariants as run
use Rattle.sr_threaded_script.specs.declared.fault.ThreadedFault.{ThreadedFault}
use Rattle.sr_threaded_script.specs.declared.fault.ThreadedFault.TheVariants as threaded

-- why nodes are not reported where the network was not run
abbrev pub run_fault : NetworkFault → RunFault
run_fault network.Size = run.NoMemory
run_fault network.NoMemory = run.NoMemory
run_fault network.NoThread = run.NoThread

-- what ends the run then, at this line
abbrev pub fault_on_line : RunFault → ℕ → ThreadedFault
fault_on_line run.NoThread line = threaded.NoThread line
fault_on_line run.NoMemory line = threaded.Script (record { line = line; kind = kind.Memory })

-- it comes behind the lines of a script: no thread can be started, the writer fails, or memory runs out
abbrev pub IsBehindLines : ThreadedFault → Type 0
IsBehindLines (threaded.NoThread line) = Unit {0}
IsBehindLines (threaded.Script fault) = IsOneOf fault.kind (kind.Write ∷ kind.Memory ∷ [])

-- its line
abbrev pub fault_line : ThreadedFault → ℕ
fault_line (threaded.NoThread line) = line
fault_line (threaded.Script fault) = fault.line
