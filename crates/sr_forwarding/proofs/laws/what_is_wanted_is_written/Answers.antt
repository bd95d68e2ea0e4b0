use Rattle.sr_forwarding.proofs.CarriageLemmas.{written}
use Rattle.sr_forwarding.proofs.laws.what_is_wanted_is_written.Goals as goal

pub returns : goal.returns
returns c = written
