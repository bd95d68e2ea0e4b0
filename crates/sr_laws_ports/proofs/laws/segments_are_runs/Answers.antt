use Rattle.sr_laws_ports.proofs.TurnLemmas.{segments_have_turns, segments_happen_one_way, segments_are_runs}
use Rattle.sr_laws_ports.proofs.laws.segments_are_runs.Goals as goal

pub returns-clause-turns : goal.returns-clause-turns
returns-clause-turns c = segments_have_turns

pub returns-clause-one : goal.returns-clause-one
returns-clause-one c = segments_happen_one_way c.supervisions_are_unique.ensures

pub returns-clause-runs : goal.returns-clause-runs
returns-clause-runs c = segments_are_runs
