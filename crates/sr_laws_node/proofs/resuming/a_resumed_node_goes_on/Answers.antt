use Rattle.sr_laws_node.proofs.ResumedLemmas.{repeats_lem, later_lem}
use Rattle.sr_laws_node.proofs.resuming.a_resumed_node_goes_on.Goals as goal

pub returns-clause-repeats : goal.returns-clause-repeats
returns-clause-repeats c = repeats_lem

pub returns-clause-later : goal.returns-clause-later
returns-clause-later c = later_lem
