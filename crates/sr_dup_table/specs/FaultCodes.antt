-- The codes of faults (choice of this project).
use Rattle.std.specs.Prelude.{ℕ, List, codes}
use Rattle.sr_dup_table.specs.declared.fault.DupFault.{DupFault}
use Rattle.sr_dup_table.specs.declared.fault.DupFault.TheVariants as fault

abbrev pub dup_code : DupFault → List ℕ
dup_code fault.TableFull = codes "U1"
dup_code fault.NoMemory = codes "U2"
dup_code (fault.Apart mac) = codes "U3"
dup_code fault.BadSnapshot = codes "U4"
dup_code fault.OtherWidth = codes "U5"
