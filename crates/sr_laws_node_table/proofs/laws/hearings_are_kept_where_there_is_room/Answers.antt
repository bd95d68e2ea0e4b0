use Rattle.sr_laws_node_table.proofs.LawLemmas.{answers_are_of_kept, full_where_others_are_live, hearings_are_kept}
use Rattle.sr_laws_node_table.proofs.laws.hearings_are_kept_where_there_is_room.Goals as goal

pub returns : goal.returns
returns c = record { answers = answers_are_of_kept; full = full_where_others_are_live; kept = hearings_are_kept }
