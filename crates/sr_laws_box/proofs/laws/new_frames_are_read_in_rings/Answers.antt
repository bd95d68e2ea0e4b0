use Rattle.sr_laws_box.proofs.CrossingLemmas.{new_in_ring}
use Rattle.sr_laws_box.proofs.laws.new_frames_are_read_in_rings.Goals as goal

pub returns : goal.returns
returns c = new_in_ring
