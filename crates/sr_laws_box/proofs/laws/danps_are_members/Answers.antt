use Rattle.sr_laws_box.proofs.MemberLemmas.{danps}
use Rattle.sr_laws_box.proofs.laws.danps_are_members.Goals as goal

pub returns : goal.returns
returns c = danps
