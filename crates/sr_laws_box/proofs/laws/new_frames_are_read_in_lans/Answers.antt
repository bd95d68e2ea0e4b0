use Rattle.sr_laws_box.proofs.CrossingLemmas.{new_in_lan}
use Rattle.sr_laws_box.proofs.laws.new_frames_are_read_in_lans.Goals as goal

pub returns : goal.returns
returns c = new_in_lan
