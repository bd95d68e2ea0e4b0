-- The numbers of faults (choice of this project).
use Rattle.std.specs.Prelude.{ℕ}
use Rattle.sr_node.specs.FaultNumbers.{step_number}
use Rattle.sr_ports.specs.declared.fault.EnterFault.{EnterFault}
use Rattle.sr_ports.specs.declared.fault.EnterFault.TheVariants as enter
use Rattle.sr_ports.specs.declared.fault.SwapFault.{SwapFault}
use Rattle.sr_ports.specs.declared.fault.SwapFault.TheVariants as swap

abbrev pub enter_number : EnterFault → ℕ
enter_number (enter.Step fault) = step_number fault
enter_number enter.JournalFull = 6

abbrev pub swap_number : SwapFault → ℕ
swap_number swap.OtherMac = 1
swap_number swap.NoMemory = 2
