use Rattle.sr_laws_plant.proofs.LanLawLemmas.{exact_lans_lose_nothing}
use Rattle.sr_laws_plant.proofs.laws.lans_lose_nothing_with_more_bars.Goals as goal

pub returns : goal.returns
returns c = exact_lans_lose_nothing
