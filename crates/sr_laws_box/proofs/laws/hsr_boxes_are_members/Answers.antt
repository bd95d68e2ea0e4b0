use Rattle.sr_laws_box.proofs.MemberLemmas.{hsr_boxes}
use Rattle.sr_laws_box.proofs.laws.hsr_boxes_are_members.Goals as goal

pub returns : goal.returns
returns c = hsr_boxes
