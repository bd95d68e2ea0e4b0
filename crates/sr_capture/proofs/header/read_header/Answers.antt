use Rattle.std.proofs.Common.{inr}
use Rattle.sr_capture.proofs.Headed.{refused_front}
use Rattle.sr_capture.proofs.header.read_header.Goals as goal

pub returns-in-Err-form_of-clause-refused : goal.returns-in-Err-form_of-clause-refused
returns-in-Err-form_of-clause-refused g c =
    inr (c.place_of.ensures, refused_front _ _ _ _ _ _ c.in-Ok.ensures.taken c.deref.ensures.value c.in-Err-form_of.ensures.refused)
