use Rattle.sr_laws_plant.proofs.RingLawLemmas.{whole_arcs_bring}
use Rattle.sr_laws_plant.proofs.laws.whole_arcs_bring_frames.Goals as goal

pub returns : goal.returns
returns c = whole_arcs_bring
