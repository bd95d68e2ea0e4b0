use Rattle.sr_laws_plant_runs.proofs.RunLawLemmas.{rings_once, lans_once}
use Rattle.sr_laws_plant_runs.proofs.laws.no_send_is_handed_up_twice.Goals as goal

pub returns : goal.returns
returns c = record {
  ring = rings_once c.ring_hands_up_the_ideal.ensures c.ring_hands_up_once.ensures;
  lans = lans_once c.lans_hand_up_the_ideal.ensures c.lans_hand_up_once.ensures;
}
