use Rattle.sr_prp_trailer.specs.TrailerLemmas.{trailed_once}
use Rattle.sr_prp_trailer.proofs.laws.trailers_are_unique.Goals as goal

pub returns : goal.returns
returns c = trailed_once
