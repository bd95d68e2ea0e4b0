use Rattle.sr_laws_plant_runs.proofs.TakenLemmas.{taken_runs}
use Rattle.sr_laws_plant_runs.proofs.laws.runs_with_all_taken_are_runs.Goals as goal

pub returns : goal.returns
returns c = taken_runs
