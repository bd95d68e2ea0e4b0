use Rattle.sr_node_table.proofs.SameLemmas.{Decides-same_table}
use Rattle.sr_node_table.proofs.laws.equal_where_the_tables_are.Goals as goal

pub returns : goal.returns
returns c = Decides-same_table
