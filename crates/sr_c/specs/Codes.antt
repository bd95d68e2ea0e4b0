-- What the calls answer, as numbers (choice of this project).
use Rattle.std.specs.Prelude.{◌≡◌, ℕ, ◌+◌, ◌==◌, if◌then◌else◌, Option, None, Some}
use Rattle.std.specs.declared.result.Result.{Result}
use Rattle.std.specs.declared.result.Result.TheVariants.{Ok, Err}
use Rattle.sr_frame.specs.declared.ports.Port.{Port}
use Rattle.sr_frame.specs.declared.ports.Port.TheVariants.{H, A, B, C}
use Rattle.sr_forwarding.specs.declared.outlets.Outlets.{Outlets}
use Rattle.sr_node.specs.declared.event.Answer.{Answer}
use Rattle.sr_dup_table.specs.declared.fault.DupFault.{DupFault}
use Rattle.sr_dup_table.specs.declared.fault.DupFault.TheVariants as dup
use Rattle.sr_node.specs.declared.fault.StepFault.{StepFault}
use Rattle.sr_node.specs.FaultNumbers.{step_number}

-- the port of a number
abbrev pub port_of : ℕ → Option Port
port_of n = if n == 0 then Some H else if n == 1 then Some A else if n == 2 then Some B else if n == 3 then Some C else None

-- the number of a port
abbrev pub port_number : Port → ℕ
port_number H = 0
port_number A = 1
port_number B = 2
port_number C = 3

-- an allocation failed
abbrev pub no_memory : ℕ
no_memory = 261

-- an argument that may not be given
abbrev pub argument : ℕ
argument = 262

-- the handle is closed
abbrev pub closed : ℕ
closed = 263

-- the handle is open already
abbrev pub opened : ℕ
opened = 264

-- as many other sources are remembered as there may be
abbrev pub table_full : ℕ
table_full = 259

-- the octets are no snapshot
abbrev pub no_snapshot : ℕ
no_snapshot = 265

-- what two nodes have noted of a source is half of all numbers apart
abbrev pub apart : ℕ
apart = 267

-- the number of a fault
abbrev pub fault_code : StepFault → ℕ
fault_code fault = 256 + step_number fault

-- the number for a frame that came in: the set of the outlets that got it, or 16 for the node's own
abbrev pub received_code : Result (Option Outlets) StepFault → ℕ
received_code (Ok None) = 16
received_code (Ok (Some outlets)) = outlets.0
received_code (Err fault) = fault_code fault

-- the number for an event
abbrev pub stepped_code : Result Answer StepFault → ℕ
stepped_code (Ok answer) = 0
stepped_code (Err fault) = fault_code fault

-- why a snapshot is not taken. (No table of another width comes up: a snapshot is read at the node's.)
abbrev pub snapshot_code : DupFault → ℕ
snapshot_code dup.TableFull = table_full
snapshot_code dup.NoMemory = no_memory
snapshot_code (dup.Apart src) = apart
snapshot_code dup.OtherWidth = argument
snapshot_code dup.BadSnapshot = no_snapshot

-- the number for a snapshot that is taken over or refused
abbrev pub taken_over_code : {A : Type 0} → Result A DupFault → ℕ
taken_over_code (Ok done) = 0
taken_over_code (Err fault) = snapshot_code fault
