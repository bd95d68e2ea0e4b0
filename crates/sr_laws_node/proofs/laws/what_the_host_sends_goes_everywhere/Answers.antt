use Rattle.sr_laws_node.proofs.AnyRunLemmas.{host_goes_lem, numbers_count_lem}
use Rattle.sr_laws_node.proofs.laws.what_the_host_sends_goes_everywhere.Goals as goal

pub returns-clause-everywhere : goal.returns-clause-everywhere
returns-clause-everywhere c = host_goes_lem

pub returns-clause-numbers : goal.returns-clause-numbers
returns-clause-numbers c = numbers_count_lem
