use Rattle.sr_node_table.proofs.LawLemmas.{status_is_of_hearings_lem, has_is_of_hearings_lem}
use Rattle.sr_node_table.proofs.laws.status_is_of_hearings.Goals as goal

pub returns-clause-status : goal.returns-clause-status
returns-clause-status c = status_is_of_hearings_lem

pub returns-clause-has : goal.returns-clause-has
returns-clause-has c = has_is_of_hearings_lem
