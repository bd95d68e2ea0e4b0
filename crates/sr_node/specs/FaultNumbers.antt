-- The numbers of faults (choice of this project).
use Rattle.std.specs.Prelude.{ℕ}
use Rattle.sr_node.specs.declared.fault.StepFault.{StepFault}
use Rattle.sr_node.specs.declared.fault.StepFault.TheVariants as fault

abbrev pub step_number : StepFault → ℕ
step_number (fault.Reading fault) = 1
step_number fault.Untagged = 2
step_number fault.TableFull = 3
step_number (fault.OutboxFull port) = 4
step_number fault.NoMemory = 5
