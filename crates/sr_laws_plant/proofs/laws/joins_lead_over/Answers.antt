use Rattle.sr_laws_plant.proofs.TwoRingsLemmas.{joins_lead_over}
use Rattle.sr_laws_plant.proofs.laws.joins_lead_over.Goals as goal

pub returns : goal.returns
returns c = joins_lead_over
