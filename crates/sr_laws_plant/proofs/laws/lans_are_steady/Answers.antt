use Rattle.sr_laws_plant.proofs.LanLawLemmas.{lans_are_steady}
use Rattle.sr_laws_plant.proofs.laws.lans_are_steady.Goals as goal

pub returns : goal.returns
returns c = lans_are_steady
