use Rattle.sr_laws_node.proofs.OriginLemmas.{origins_are_steady_lem}
use Rattle.sr_laws_node.proofs.SteadyLemmas.{steady_at_nodes_lem}
use Rattle.sr_laws_node.proofs.laws.steady_numbers_are_steady_at_nodes.Goals as goal

pub returns-clause-numbers : goal.returns-clause-numbers
returns-clause-numbers c = steady_at_nodes_lem

pub returns-clause-origins : goal.returns-clause-origins
returns-clause-origins c = origins_are_steady_lem c.starts_are_steady.ensures
