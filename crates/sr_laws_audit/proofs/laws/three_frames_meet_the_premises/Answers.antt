use Rattle.sr_laws_audit.proofs.CaseLemmas.{three_meet}
use Rattle.sr_laws_audit.proofs.laws.three_frames_meet_the_premises.Goals as goal

pub returns : goal.returns
returns c = three_meet
