use Rattle.std.proofs.Common.{rules}
use Rattle.sr_plant.proofs.twin_lan.TwinLanOf.new.Goals as goal

pub returns-in_err-plant : goal.returns-in_err-plant
returns-in_err-plant g c = search rules

pub returns : goal.returns
returns g c = search rules
