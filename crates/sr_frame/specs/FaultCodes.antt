-- The codes of faults (choice of this project).
use Rattle.std.specs.Prelude.{ℕ, List, codes}
use Rattle.sr_frame.specs.declared.fault.FrameFault.{FrameFault}
use Rattle.sr_frame.specs.declared.fault.FrameFault.TheVariants as fault

abbrev pub frame_code : FrameFault → List ℕ
frame_code fault.TooShort = codes "F1"
frame_code fault.TooLong = codes "F2"
frame_code fault.NoMemory = codes "F3"
