use Rattle.sr_capture_audit.proofs.JudgedAll.{judged_all}
use Rattle.sr_capture_audit.proofs.laws.judged_frames_may_be_all.Goals as goal

pub returns : goal.returns
returns c = judged_all
