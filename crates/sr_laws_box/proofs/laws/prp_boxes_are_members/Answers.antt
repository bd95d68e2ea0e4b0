use Rattle.sr_laws_box.proofs.MemberLemmas.{prp_boxes}
use Rattle.sr_laws_box.proofs.laws.prp_boxes_are_members.Goals as goal

pub returns : goal.returns
returns c = prp_boxes
