use Rattle.sr_laws_plant_runs.proofs.WorkedRunLemmas.{premises_are_met}
use Rattle.sr_laws_plant_runs.proofs.laws.two_nodes_meet_all_premises.Goals as goal

pub returns : goal.returns
returns c = premises_are_met
