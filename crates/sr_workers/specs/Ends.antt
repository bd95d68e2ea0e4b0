-- Why a worker ends.
use Rattle.std.specs.Prelude.{Option, None, Some}
use Rattle.sr_node.specs.declared.fault.StepFault.TheVariants.{Reading, Untagged, TableFull, OutboxFull, NoMemory}
use Rattle.sr_ports.specs.declared.fault.EnterFault.{EnterFault}
use Rattle.sr_ports.specs.declared.fault.EnterFault.TheVariants.{Step, JournalFull}
use Rattle.sr_workers.specs.declared.fault.WorkerFault.{WorkerFault}
use Rattle.sr_workers.specs.declared.fault.WorkerFault.TheVariants as worker

-- what ends a worker whose event is refused so; where the node refuses the event itself, the worker goes on
abbrev pub stop_of : EnterFault → Option WorkerFault
stop_of JournalFull = Some worker.JournalFull
stop_of (Step NoMemory) = Some worker.NoMemory
stop_of (Step (Reading fault)) = None
stop_of (Step Untagged) = None
stop_of (Step TableFull) = None
stop_of (Step (OutboxFull port)) = None
