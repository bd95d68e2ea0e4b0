use Rattle.sr_laws_box.proofs.CrossingLemmas.{padded_once}
use Rattle.sr_laws_box.proofs.laws.padding_is_done_once.Goals as goal

pub returns : goal.returns
returns c = padded_once
