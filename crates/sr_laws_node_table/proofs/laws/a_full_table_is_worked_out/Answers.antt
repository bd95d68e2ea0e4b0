use Rattle.sr_laws_node_table.proofs.FullExampleLemmas.{full_is_worked_out}
use Rattle.sr_laws_node_table.proofs.laws.a_full_table_is_worked_out.Goals as goal

pub returns : goal.returns
returns c = full_is_worked_out
