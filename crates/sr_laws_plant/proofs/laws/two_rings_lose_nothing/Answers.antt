use Rattle.sr_laws_plant.proofs.TwoRingsLemmas.{two_rings_lose_nothing}
use Rattle.sr_laws_plant.proofs.laws.two_rings_lose_nothing.Goals as goal

pub returns : goal.returns
returns c = two_rings_lose_nothing
