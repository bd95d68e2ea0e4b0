use Rattle.std.proofs.Common.{rules}
use Rattle.sr_plant_script.proofs.members.mac_of.Goals as goal

pub returns : goal.returns
returns c = search rules
