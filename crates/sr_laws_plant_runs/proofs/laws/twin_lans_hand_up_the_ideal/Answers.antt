use Rattle.sr_laws_plant_runs.proofs.RunLawLemmas.{lans_told}
use Rattle.sr_laws_plant_runs.proofs.laws.twin_lans_hand_up_the_ideal.Goals as goal

pub returns : goal.returns
returns c =
    lans_told c.lans_hand_up_the_ideal.ensures c.lans_are_steady.ensures c.lans_hand_up_once.ensures c.lans_lose_nothing.ensures
