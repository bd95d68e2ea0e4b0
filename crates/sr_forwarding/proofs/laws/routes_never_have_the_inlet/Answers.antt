use Rattle.sr_forwarding.proofs.KindLemmas.{no_inlet}
use Rattle.sr_forwarding.proofs.laws.routes_never_have_the_inlet.Goals as goal

pub returns : goal.returns
returns c = no_inlet
