use Rattle.sr_laws_node.proofs.HistoryLemmas.{holds_back_both_lem}
use Rattle.sr_laws_node.proofs.standbys.what_either_noted_is_held_back.Goals as goal

pub returns : goal.returns
returns c = holds_back_both_lem c.answers_by_the_union.ensures c.tables_stand.ensures
