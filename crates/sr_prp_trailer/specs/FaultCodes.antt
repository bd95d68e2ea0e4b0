-- The codes of faults (choice of this project).
use Rattle.std.specs.Prelude.{ℕ, List, codes}
use Rattle.sr_prp_trailer.specs.declared.fault.StripFault.{StripFault}
use Rattle.sr_prp_trailer.specs.declared.fault.StripFault.TheVariants as fault

abbrev pub strip_code : StripFault → List ℕ
strip_code fault.NoTrailer = codes "L1"
strip_code fault.NoMemory = codes "F3"
