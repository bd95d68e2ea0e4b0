-- The codes of faults (choice of this project).
use Rattle.std.specs.Prelude.{ℕ, List, codes}
use Rattle.sr_supervision.specs.declared.fault.SupFault.{SupFault}
use Rattle.sr_supervision.specs.declared.fault.SupFault.TheVariants as fault

abbrev pub sup_code : SupFault → List ℕ
sup_code fault.NotSupervision = codes "S1"
sup_code fault.Version = codes "S2"
sup_code fault.FirstTlv = codes "S3"
sup_code fault.Truncated = codes "S4"
