use Rattle.std.proofs.Common.{ap}
use Rattle.std.specs.Prelude.{Ok}
use Rattle.sr_hsr_tag.proofs.reading.read.Goals as goal

pub returns-in_err-tag-clause-only : goal.returns-in_err-tag-clause-only
returns-in_err-tag-clause-only c plain t is = absurd (c.in_err-tag.ensures.only plain t is)

pub returns-clause-only : goal.returns-clause-only
returns-clause-only c plain t is = ap (λ s. Ok s) (c.in_ok-tag.ensures.only plain t is).0
