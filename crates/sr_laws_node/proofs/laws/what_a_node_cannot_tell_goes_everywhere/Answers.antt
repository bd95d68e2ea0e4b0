use Rattle.sr_laws_node.proofs.AnyRunLemmas.{unknown_goes_lem}
use Rattle.sr_laws_node.proofs.laws.what_a_node_cannot_tell_goes_everywhere.Goals as goal

pub returns : goal.returns
returns c = unknown_goes_lem
