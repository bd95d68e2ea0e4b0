use Rattle.sr_laws_plant_runs.proofs.RefusalLemmas.{unrefused}
use Rattle.sr_laws_plant_runs.proofs.laws.losses_are_drops_and_cuts.Goals as goal

pub returns : goal.returns
returns c = unrefused
