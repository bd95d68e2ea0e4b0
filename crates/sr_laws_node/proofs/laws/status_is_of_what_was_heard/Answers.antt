use Rattle.sr_laws_node.proofs.HeardLemmas.{tells_lem, one_way_lem}
use Rattle.sr_laws_node.proofs.laws.status_is_of_what_was_heard.Goals as goal

pub returns-clause-tells : goal.returns-clause-tells
returns-clause-tells c = tells_lem c.status_is_of_hearings.ensures.status c.status_is_of_hearings.ensures.has

pub returns-clause-one : goal.returns-clause-one
returns-clause-one c = one_way_lem c.supervisions_are_unique.ensures
