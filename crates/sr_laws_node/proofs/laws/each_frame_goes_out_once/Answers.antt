use Rattle.sr_laws_node.proofs.TurnLemmas.{each_turn_lem, each_once_lem}
use Rattle.sr_laws_node.proofs.PairLemmas.{pairs_of_all_lem}
use Rattle.sr_laws_node.proofs.laws.each_frame_goes_out_once.Goals as goal

pub returns-clause-turns : goal.returns-clause-turns
returns-clause-turns c = each_turn_lem c.each_pair_is_new_after_a_start.ensures c.starts_are_steady.ensures

pub returns-clause-once : goal.returns-clause-once
returns-clause-once c = each_once_lem c.each_pair_is_new_after_a_start.ensures c.starts_are_steady.ensures

pub returns-clause-up : goal.returns-clause-up
returns-clause-up c = pairs_of_all_lem
