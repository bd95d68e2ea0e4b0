-- The numbers of faults (choice of this project).
use Rattle.std.specs.Prelude.{ℕ}
use Rattle.sr_threaded.specs.declared.fault.NetworkFault.{NetworkFault}
use Rattle.sr_threaded.specs.declared.fault.NetworkFault.TheVariants as fault

abbrev pub network_number : NetworkFault → ℕ
network_number fault.Size = 1
network_number fault.NoMemory = 2
network_number fault.NoThread = 3
