use Rattle.sr_laws_plant_runs.proofs.UnbrokenLemmas.{rings_hand_up_all, lans_hand_up_all}
use Rattle.sr_laws_plant_runs.proofs.laws.an_unbroken_network_hands_up_all.Goals as goal

pub returns : goal.returns
returns c = record {
  ring = rings_hand_up_all c.rings_hand_up_the_ideal.ensures;
  lans = lans_hand_up_all c.twin_lans_hand_up_the_ideal.ensures;
}
