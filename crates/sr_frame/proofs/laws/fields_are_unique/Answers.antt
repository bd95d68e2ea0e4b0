use Rattle.std.proofs.Common.{sym, ◌∙◌}
use Rattle.sr_frame.specs.FrameLemmas.{spelled_once}
use Rattle.sr_frame.proofs.laws.fields_are_unique.Goals as goal

pub returns : goal.returns
returns c octets f g a b = spelled_once f g a.legal b.legal (sym a.spelled ∙ b.spelled)
