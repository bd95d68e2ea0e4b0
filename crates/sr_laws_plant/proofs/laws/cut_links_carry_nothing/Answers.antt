use Rattle.sr_laws_plant.proofs.CutLemmas.{cut_links_carry_nothing}
use Rattle.sr_laws_plant.proofs.laws.cut_links_carry_nothing.Goals as goal

pub returns : goal.returns
returns c = cut_links_carry_nothing
