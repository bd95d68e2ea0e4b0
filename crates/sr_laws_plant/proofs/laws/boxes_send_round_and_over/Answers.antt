use Rattle.sr_laws_plant.proofs.WayLemmas.{box_sends_round, box_sends_over}
use Rattle.sr_laws_plant.proofs.laws.boxes_send_round_and_over.Goals as goal

pub returns : goal.returns
returns c = (box_sends_round, box_sends_over)
