use Rattle.sr_laws_audit.proofs.CaseLemmas.{ring_meets}
use Rattle.sr_laws_audit.proofs.laws.ring_frames_meet_the_premises.Goals as goal

pub returns : goal.returns
returns c = ring_meets
