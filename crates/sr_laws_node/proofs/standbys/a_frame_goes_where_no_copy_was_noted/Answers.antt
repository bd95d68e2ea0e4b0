use Rattle.sr_laws_node.proofs.HistoryLemmas.{goes_where_new_lem}
use Rattle.sr_laws_node.proofs.standbys.a_frame_goes_where_no_copy_was_noted.Goals as goal

pub returns : goal.returns
returns c = goes_where_new_lem c.answers_by_the_union.ensures
