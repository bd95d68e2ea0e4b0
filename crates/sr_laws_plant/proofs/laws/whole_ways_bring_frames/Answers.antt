use Rattle.sr_laws_plant.proofs.WayLemmas.{arrives}
use Rattle.sr_laws_plant.proofs.laws.whole_ways_bring_frames.Goals as goal

pub returns : goal.returns
returns c = arrives
