use Rattle.sr_laws_node.proofs.AnyRunLemmas.{goes_where_wanted_lem}
use Rattle.sr_laws_node.proofs.laws.nothing_goes_where_it_is_not_wanted.Goals as goal

pub returns : goal.returns
returns c = goes_where_wanted_lem
