use Rattle.sr_frame.specs.LengthLemmas.{HasFrameLength-spelling}
use Rattle.sr_frame.proofs.laws.frames_have_frame_length.Goals as goal

pub returns : goal.returns
returns c octets f a = rw a.spelled (HasFrameLength-spelling f a.legal)
