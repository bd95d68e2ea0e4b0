use Rattle.sr_laws_plant_runs.proofs.RunLawLemmas.{rings_told}
use Rattle.sr_laws_plant_runs.proofs.laws.rings_hand_up_the_ideal.Goals as goal

pub returns : goal.returns
returns c =
    rings_told c.ring_hands_up_the_ideal.ensures c.ring_is_steady.ensures c.ring_hands_up_once.ensures c.ring_loses_nothing.ensures
