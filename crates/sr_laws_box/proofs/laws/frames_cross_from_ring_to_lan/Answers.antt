use Rattle.sr_laws_box.proofs.CrossingLemmas.{ring_to_lan}
use Rattle.sr_laws_box.proofs.laws.frames_cross_from_ring_to_lan.Goals as goal

pub returns : goal.returns
returns c = ring_to_lan
