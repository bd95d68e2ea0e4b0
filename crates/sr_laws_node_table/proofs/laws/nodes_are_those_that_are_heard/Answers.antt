use Rattle.sr_laws_node_table.proofs.LawLemmas.{status_is_of_kept, list_is_of_kept, entries_are_of_kept, entry_is_of_kept, entries_are_distinct}
use Rattle.sr_laws_node_table.proofs.laws.nodes_are_those_that_are_heard.Goals as goal

pub returns : goal.returns
returns c = record {
  status = status_is_of_kept c.status_is_of_hearings.ensures.status c.status_is_of_hearings.ensures.has;
  list = list_is_of_kept;
  entries = entries_are_of_kept;
  entry = entry_is_of_kept;
  once = entries_are_distinct;
}
