use Rattle.sr_laws_box.proofs.MemberLemmas.{danhs}
use Rattle.sr_laws_box.proofs.laws.danhs_are_members.Goals as goal

pub returns : goal.returns
returns c = danhs
