use Rattle.std.proofs.Common.{ap}
use Rattle.std.specs.Prelude.{Some}
use Rattle.sr_prp_trailer.proofs.reading.read.Goals as goal

pub returns-clause-only : goal.returns-clause-only
returns-clause-only c plain t is = ap (λ s. Some s) (c.in_ok-trailer.ensures.only plain t is).1
