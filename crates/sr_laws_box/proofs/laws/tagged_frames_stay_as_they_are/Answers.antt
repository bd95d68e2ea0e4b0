use Rattle.sr_laws_box.proofs.CrossingLemmas.{stays_tagged}
use Rattle.sr_laws_box.proofs.laws.tagged_frames_stay_as_they_are.Goals as goal

pub returns : goal.returns
returns c = stays_tagged
