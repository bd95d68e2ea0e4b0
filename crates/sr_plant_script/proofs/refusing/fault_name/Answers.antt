use Rattle.std.proofs.Common.{rules}
use Rattle.sr_plant_script.proofs.refusing.fault_name.Goals as goal

pub returns-in-ClockBack : goal.returns-in-ClockBack
returns-in-ClockBack c = search rules
