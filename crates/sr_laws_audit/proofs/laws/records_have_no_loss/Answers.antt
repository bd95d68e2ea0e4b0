use Rattle.sr_laws_audit.proofs.FollowedLemmas.{no_loss}
use Rattle.sr_laws_audit.proofs.laws.records_have_no_loss.Goals as goal

pub returns : goal.returns
returns c = no_loss
