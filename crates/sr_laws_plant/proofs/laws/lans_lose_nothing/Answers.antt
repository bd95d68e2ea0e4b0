use Rattle.sr_laws_plant.proofs.LanLawLemmas.{lans_lose_nothing}
use Rattle.sr_laws_plant.proofs.laws.lans_lose_nothing.Goals as goal

pub returns : goal.returns
returns c = lans_lose_nothing
