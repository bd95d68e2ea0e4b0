use Rattle.sr_laws_plant.proofs.CutLan.{cut_lan_loses_nothing}
use Rattle.sr_laws_plant.proofs.laws.a_cut_lan_loses_nothing.Goals as goal

pub returns : goal.returns
returns c = cut_lan_loses_nothing
