use Rattle.sr_laws_plant.proofs.LanWayLemmas.{whole_chains_bring}
use Rattle.sr_laws_plant.proofs.laws.whole_chains_bring_frames.Goals as goal

pub returns : goal.returns
returns c = whole_chains_bring
