use Rattle.sr_laws_coupled_runs.proofs.CoupledLemmas.{ring_lans_once, two_rings_once}
use Rattle.sr_laws_coupled_runs.proofs.laws.coupled_networks_hand_up_no_send_twice.Goals as goal

pub returns : goal.returns
returns c = record {
  ring_lans = ring_lans_once c.ring_lan_hands_up_the_ideal.ensures c.ring_lan_loses_nothing.ensures;
  two_rings = two_rings_once c.two_rings_hand_up_the_ideal.ensures c.two_rings_lose_nothing.ensures;
}
