use Rattle.sr_laws_plant_runs.proofs.OneHistoryLemmas.{have_one_history}
use Rattle.sr_laws_plant_runs.proofs.laws.a_run_has_one_history.Goals as goal

pub returns : goal.returns
returns c = have_one_history
