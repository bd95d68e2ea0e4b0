use Rattle.sr_laws_coupled_runs.proofs.EachOnceLemmas.{ring_lans_each_once, two_rings_each_once}
use Rattle.sr_laws_coupled_runs.proofs.laws.an_unbroken_coupled_network_hands_up_each_once.Goals as goal

pub returns : goal.returns
returns c = record {
  ring_lans = ring_lans_each_once c.ring_lan_hands_up_the_ideal.ensures c.ring_lan_loses_nothing.ensures
      c.a_lossless_ring_lan_hands_up_the_ideal.ensures;
  two_rings = two_rings_each_once c.two_rings_hand_up_the_ideal.ensures c.two_rings_lose_nothing.ensures
      c.lossless_two_rings_hand_up_the_ideal.ensures;
}
