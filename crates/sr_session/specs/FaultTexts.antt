-- How a fault is told.
use Rattle.std.specs.Prelude.{ℕ, List, [], ◌∷◌, codes}
use Rattle.std.specs.Fmt.{decimal}
use Rattle.sr_session.specs.declared.fault.Fault.{Fault}
use Rattle.sr_session.specs.declared.fault.FaultKind.{FaultKind}
use Rattle.sr_session.specs.declared.fault.FaultKind.TheVariants.{Line, Long, Read, Write, Memory}
use Rattle.sr_session.specs.Octets.{spaced}

abbrev pub kind_text : FaultKind → List ℕ
kind_text Line = codes "line"
kind_text Long = codes "long"
kind_text Read = codes "read"
kind_text Write = codes "write"
kind_text Memory = codes "memory"

-- the number of the line at work, and the kind
abbrev pub fault_text : Fault → List ℕ
fault_text fault = spaced (codes "fault" ∷ decimal fault.line ∷ kind_text fault.kind ∷ [])
