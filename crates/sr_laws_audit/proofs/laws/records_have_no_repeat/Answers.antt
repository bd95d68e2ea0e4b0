use Rattle.sr_laws_audit.proofs.FollowedLemmas.{no_repeat}
use Rattle.sr_laws_audit.proofs.laws.records_have_no_repeat.Goals as goal

pub returns : goal.returns
returns c = no_repeat
