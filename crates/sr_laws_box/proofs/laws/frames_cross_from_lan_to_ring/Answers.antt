use Rattle.sr_laws_box.proofs.CrossingLemmas.{lan_to_ring}
use Rattle.sr_laws_box.proofs.laws.frames_cross_from_lan_to_ring.Goals as goal

pub returns : goal.returns
returns c = lan_to_ring
