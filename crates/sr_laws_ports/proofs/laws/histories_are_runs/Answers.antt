use Rattle.sr_laws_ports.proofs.TurnLemmas.{have_turns, happen_one_way, are_runs, swaps_are_turns}
use Rattle.sr_laws_ports.proofs.laws.histories_are_runs.Goals as goal

pub returns-clause-turns : goal.returns-clause-turns
returns-clause-turns c = have_turns

pub returns-clause-one : goal.returns-clause-one
returns-clause-one c = happen_one_way c.supervisions_are_unique.ensures

pub returns-clause-runs : goal.returns-clause-runs
returns-clause-runs c = are_runs

pub returns-clause-swaps : goal.returns-clause-swaps
returns-clause-swaps c = swaps_are_turns
