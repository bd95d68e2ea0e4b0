use Rattle.sr_laws_node.proofs.EmptyingLemmas.{empties_outlets, empties_nodes, takes_all_lem}
use Rattle.sr_laws_node.proofs.laws.what_waits_can_be_taken.Goals as goal

pub returns-clause-outlets : goal.returns-clause-outlets
returns-clause-outlets c = empties_outlets

pub returns-clause-nodes : goal.returns-clause-nodes
returns-clause-nodes c = empties_nodes

pub returns-clause-taken : goal.returns-clause-taken
returns-clause-taken c = takes_all_lem
