use Rattle.sr_laws_plant_runs.proofs.SentLemmas.{only_what_others_sent}
use Rattle.sr_laws_plant_runs.proofs.laws.only_what_others_sent_is_handed_up.Goals as goal

pub returns : goal.returns
returns c = only_what_others_sent
