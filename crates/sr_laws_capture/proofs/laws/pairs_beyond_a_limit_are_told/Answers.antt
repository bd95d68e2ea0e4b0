use Rattle.sr_laws_capture.proofs.WideLemmas.{wide_told}
use Rattle.sr_laws_capture.proofs.laws.pairs_beyond_a_limit_are_told.Goals as goal

pub returns : goal.returns
returns c = wide_told
