use Rattle.sr_laws_node_table.proofs.ExampleLemmas.{are_worked_out}
use Rattle.sr_laws_node_table.proofs.laws.two_runs_are_worked_out.Goals as goal

pub returns : goal.returns
returns c = are_worked_out
