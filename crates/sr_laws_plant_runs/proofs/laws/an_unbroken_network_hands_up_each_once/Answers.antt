use Rattle.sr_laws_plant_runs.proofs.EachOnceLemmas.{rings_each_once, lans_each_once}
use Rattle.sr_laws_plant_runs.proofs.laws.an_unbroken_network_hands_up_each_once.Goals as goal

pub returns : goal.returns
returns c = record {
  ring = rings_each_once c.ring_hands_up_the_ideal.ensures c.ring_hands_up_once.ensures c.ring_loses_nothing.ensures;
  lans = lans_each_once c.lans_hand_up_the_ideal.ensures c.lans_hand_up_once.ensures c.lans_lose_nothing.ensures;
}
